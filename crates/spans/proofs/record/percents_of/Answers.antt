-- By cases of the ends: the low one is an outer end, the high one is, neither is.
-- Assumes nothing.
use Rattle.spans.specs.Record.{percents_of}
use Rattle.spans.proofs.record.percents_of.Goals as goal

pub returns-then-first : goal.returns-then-first
unfolding percents_of
returns-then-first c = rw c.if-first.true c.end_span.ensures

pub returns-then-last : goal.returns-then-last
unfolding percents_of
returns-then-last c = rw (c.if-first.false, c.if-last.true) c.end_span-then-last.ensures

pub returns : goal.returns
unfolding percents_of
returns c = rw (c.if-first.false, c.if-last.false) c.inner_span.ensures
