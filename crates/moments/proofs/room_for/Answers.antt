-- By cases of the lengths of table and slice; records and supports are counted from the floor's bays.
-- Assumes nothing.
use mathlib.Core.Path.{ap, ◌∙◌}
use borrow.Author.Tests.{lt-leb, le-leb}
use Rattle.numbers.proofs.Chains.{stopped, went_on, ended}
use Rattle.tables.proofs.Numbered.{bayed, counted}
use Rattle.supports.specs.Governing.{support_count}
use Rattle.moments.specs.Tables.{room_refusal, room_checks}
use Rattle.moments.proofs.room_for.Goals as goal

pub record_count-requires : goal.record_count-requires
record_count-requires c = bayed c.bays_of-b.ensures

pub returns-then-not-records_fit : goal.returns-then-not-records_fit
unfolding room_refusal room_checks
returns-then-not-records_fit c = rw (← counted c.bays_of-b.ensures c.record_count.ensures.0) (stopped _ _ _ _ (lt-leb _ _ c.if-not-records_fit.true))

pub support_count-requires : goal.support_count-requires
support_count-requires c = bayed c.bays_of-b.ensures

pub returns-then-not-supports_fit : goal.returns-then-not-supports_fit
unfolding room_refusal room_checks
returns-then-not-supports_fit c = let b = c.bays_of-b.ensures in
    rw (← counted b c.record_count.ensures.0, ← (c.support_count.ensures.0 ∙ ap support_count b.is))
    (went_on _ _ _ _ (le-leb _ _ c.if-not-records_fit.false) (stopped _ _ _ _ (lt-leb _ _ c.if-not-supports_fit.true)))

pub returns : goal.returns
unfolding room_refusal room_checks
returns c = let b = c.bays_of-b.ensures in
    rw (← counted b c.record_count.ensures.0, ← (c.support_count.ensures.0 ∙ ap support_count b.is))
    (went_on _ _ _ _ (le-leb _ _ c.if-not-records_fit.false) (went_on _ _ _ _ (le-leb _ _ c.if-not-supports_fit.false) ended))
