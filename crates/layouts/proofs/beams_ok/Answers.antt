-- What three beams tell is kept exactly where the layout of the floor is (told_kept).
-- Assumes nothing.
use Rattle.layouts.specs.Layouts.{beams_ok}
use Rattle.layouts.proofs.ByThree.{told_kept}
use Rattle.layouts.proofs.beams_ok.Goals as goal

pub returns : goal.returns
unfolding beams_ok
returns c = cc (told_kept _ c.requires.bay)
