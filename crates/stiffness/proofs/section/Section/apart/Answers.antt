-- The flange is a rectangle whose area is asked (wing).
-- Assumes nothing.
use Rattle.stiffness.proofs.Stiffness.{wing}
use Rattle.stiffness.proofs.section.Section.apart.Goals as goal

pub area-requires-2 : goal.area-requires-2
area-requires-2 c = wing c.requires
