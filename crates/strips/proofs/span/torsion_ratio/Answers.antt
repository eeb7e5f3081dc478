-- The divisor fits, by the product of its bounds.
-- Assumes nothing.
use Rattle.numbers.proofs.Bounded.{◌⊗◌, cubed, fits}
use Rattle.strips.proofs.span.torsion_ratio.Goals as goal

pub overflow_mul-l2 : goal.overflow_mul-l2
overflow_mul-l2 c = fits (c.requires.across_most ⊗ cubed c.requires.slab_most) tt
