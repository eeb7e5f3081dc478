-- By cases of the grade; the products fit by the ranges.
-- Assumes nothing.
use borrow.Author.Rules.{rules}
use borrow.Author.Tests.{eq-eqb, ne_eqb}
use native.Mathlib.Omega.{arith}
use Rattle.numbers.proofs.Bounded.{◌⊗◌, #, fits}
use Rattle.steel.specs.Steel.{minimum_area}
use Rattle.steel.proofs.Ranges.{grade_range}
use Rattle.steel.proofs.areas.minimum_area.Goals as goal

pub overflow_mul-b-then-fy-eq280 : goal.overflow_mul-b-then-fy-eq280
unfolding minimum_area
overflow_mul-b-then-fy-eq280 c = let r = c.requires in fits (# _ ⊗ r.width.1 ⊗ r.thickness.1) tt

pub rounded_up-requires : goal.rounded_up-requires
unfolding minimum_area
rounded_up-requires c = let r = c.requires in record { positive = search rules; room = omega (arith, # 2 ⊗ r.width.1 ⊗ r.thickness.1) }

pub returns-then-fy-eq280 : goal.returns-then-fy-eq280
unfolding minimum_area
returns-then-fy-eq280 c = rw (eq-eqb _ _ c.if-fy-eq280.true) c.rounded_up.ensures

pub overflow_mul-b-3 : goal.overflow_mul-b-3
unfolding minimum_area
overflow_mul-b-3 c = let r = c.requires in fits (# _ ⊗ r.width.1 ⊗ r.thickness.1) tt

pub overflow_mul-fy : goal.overflow_mul-fy
unfolding minimum_area
overflow_mul-fy c = fits (# _ ⊗ (grade_range c.requires).1) tt

pub rounded_up-requires-2 : goal.rounded_up-requires-2
unfolding minimum_area
rounded_up-requires-2 c = let r = c.requires in let g = grade_range r in record {
  positive = omega (arith, g.0);
  room = omega (arith, g.1, # 756 ⊗ r.width.1 ⊗ r.thickness.1);
}

pub returns : goal.returns
unfolding minimum_area
returns c = rw (ne_eqb _ _ c.if-fy-eq280.false) c.rounded_up-2.ensures
