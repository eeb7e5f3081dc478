-- b·h³, by the bounds of the two sides.
-- Assumes nothing.
use mathlib.Core.Path.{refl}
use Rattle.numbers.proofs.Bounded.{◌⊗◌, cubed, fits}
use Rattle.stiffness.specs.Sections.{inertia}
use Rattle.stiffness.proofs.section.Section.inertia.Goals as goal

pub overflow_mul-result-3 : goal.overflow_mul-result-3
overflow_mul-result-3 c = fits (c.requires.width_most ⊗ cubed c.requires.depth_most) tt

pub returns : goal.returns
unfolding inertia
returns c = (refl, c.requires.width_most ⊗ cubed c.requires.depth_most)
