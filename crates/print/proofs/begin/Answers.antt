-- After the first line the sheet ends, or goes on with the records (Sheets).
-- Assumes nothing.
use Rattle.tables.proofs.Numbered.{bayed, counted}
use Rattle.print.proofs.Sheets.{opened_as, ends_there, goes_on}
use Rattle.print.proofs.begin.Goals as goal

pub returns-then-answer-ne0 : goal.returns-then-answer-ne0
returns-then-answer-ne0 c = ends_there (opened_as _ c.of_verdict-answer.ensures c.open.ensures) c.pair-end.ensures.0 c.if-answer-ne0.true

pub record_count-requires : goal.record_count-requires
record_count-requires c = bayed c.bays_of.ensures

pub returns : goal.returns
returns c = goes_on (opened_as _ c.of_verdict-answer.ensures c.open.ensures) c.pair-end.ensures.0 c.if-answer-ne0.false
    (counted c.bays_of.ensures c.record_count.ensures.0) c.record_count.ensures.1
