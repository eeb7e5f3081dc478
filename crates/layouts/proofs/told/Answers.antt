-- Each callee's equation in turn.
-- Assumes nothing.
use Rattle.layouts.specs.Layouts.{told_layout}
use Rattle.layouts.proofs.told.Goals as goal

pub returns : goal.returns
unfolding told_layout
returns c = cc
