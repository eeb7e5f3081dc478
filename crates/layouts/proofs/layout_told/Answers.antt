-- What three beams tell is the layout of a floor whose layout is allowed (told_is).
-- Assumes nothing.
use mathlib.Core.Path.{◌∙◌}
use Rattle.layouts.proofs.ByThree.{told_is}
use Rattle.layouts.proofs.layout_told.Goals as goal

pub returns : goal.returns
returns c = c.told.ensures ∙ told_is _ c.requires.bayed.bay c.requires.allowed
