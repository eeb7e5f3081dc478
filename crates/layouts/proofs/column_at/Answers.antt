-- Each callee's equation in turn.
-- Assumes nothing.
use Rattle.layouts.specs.Layouts.{keeps}
use Rattle.layouts.proofs.column_at.Goals as goal

pub returns : goal.returns
unfolding keeps
returns c = cc
