-- Each callee's equation in turn.
-- Assumes nothing.
use Rattle.floor.specs.Refusal.{first_ok}
use Rattle.floor.proofs.refusal.first_ok.Goals as goal

pub returns : goal.returns
unfolding first_ok
returns c = cc
