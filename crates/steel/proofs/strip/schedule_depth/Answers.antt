-- By cases of the direction.
-- Assumes nothing.
use Rattle.steel.specs.Strips.{schedule_depth}
use Rattle.steel.proofs.strip.schedule_depth.Goals as goal

pub returns-in-X : goal.returns-in-X
unfolding schedule_depth
returns-in-X c = rw c.in-X.is c.saturating_sub-first_layer.ensures

pub returns-in-Y : goal.returns-in-Y
unfolding schedule_depth
returns-in-Y c = rw c.in-Y.is
