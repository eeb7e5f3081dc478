-- Each callee's equation in turn, and the bays at hand are the floor's.
-- Assumes nothing.
use Rattle.spans.specs.Views.{outer_end}
use Rattle.spans.proofs.view.end_view.Goals as goal

pub returns-then-outer : goal.returns-then-outer
unfolding outer_end
returns-then-outer c = rw c.if-outer.true (cc)
