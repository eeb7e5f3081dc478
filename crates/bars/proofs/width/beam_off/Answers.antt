-- By cases of the line.
-- Assumes nothing.
use Rattle.bars.specs.Widths.{beam_off}
use Rattle.bars.proofs.width.beam_off.Goals as goal

pub returns-then-outer : goal.returns-then-outer
unfolding beam_off
returns-then-outer c = rw c.if-outer.true

pub returns-else-outer : goal.returns-else-outer
unfolding beam_off
returns-else-outer c = rw c.if-outer.false
