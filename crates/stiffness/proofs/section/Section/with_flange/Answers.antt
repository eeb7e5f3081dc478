-- The flange is a rectangle whose area and inertia are asked (wing).
-- Assumes nothing.
use Rattle.stiffness.proofs.Stiffness.{wing}
use Rattle.stiffness.proofs.section.Section.with_flange.Goals as goal

pub area-requires-2 : goal.area-requires-2
area-requires-2 c = wing c.requires

pub inertia-requires-2 : goal.inertia-requires-2
inertia-requires-2 c = wing c.requires
