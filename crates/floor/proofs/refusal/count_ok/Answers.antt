-- The bays at hand are the floor's.
-- Assumes nothing.
use Rattle.floor.specs.Refusal.{count_ok}
use Rattle.floor.proofs.refusal.count_ok.Goals as goal

pub returns : goal.returns
unfolding count_ok
returns c = let sized = c.args.plan.now.sized in rw (c.total-n.ensures.0, sized.x, sized.y)
