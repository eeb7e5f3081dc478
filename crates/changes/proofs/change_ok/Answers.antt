-- Each callee's equation in turn.
-- Assumes nothing.
use Rattle.changes.specs.Change.{change_ok}
use Rattle.changes.proofs.change_ok.Goals as goal

pub returns : goal.returns
unfolding change_ok
returns c = cc
