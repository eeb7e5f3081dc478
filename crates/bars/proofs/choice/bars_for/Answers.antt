-- By the bar at which the walk stands.
-- Assumes nothing.
use Rattle.bars.proofs.Walk.{bar_fits, next}
use Rattle.bars.proofs.choice.bars_for.Goals as goal

pub returns-then-fits : goal.returns-then-fits
returns-then-fits c = bar_fits _ _ _ c.loop-diameter-test.true c.loop-diameter.invariant c.widest-spacing.ensures.0 c.if-fits.true

pub loop-diameter-preserved : goal.loop-diameter-preserved
loop-diameter-preserved c = next _ _ _ c.loop-diameter-test.true c.loop-diameter.invariant c.widest-spacing.ensures.0 c.if-fits.false
