-- Each callee's equation in turn.
-- Assumes nothing.
use Rattle.floor.specs.Refusal.{record_ok}
use Rattle.floor.proofs.refusal.ranged.Goals as goal

pub returns : goal.returns
unfolding record_ok
returns c = cc
