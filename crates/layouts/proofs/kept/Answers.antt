-- Each callee's equation in turn.
-- Assumes nothing.
use Rattle.layouts.specs.Layouts.{kept}
use Rattle.layouts.proofs.kept.Goals as goal

pub returns : goal.returns
unfolding kept
returns c = cc
