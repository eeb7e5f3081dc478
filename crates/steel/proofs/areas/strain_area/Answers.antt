-- The products fit by the query's ranges, K by its largest value.
-- Assumes nothing.
use Prim.Native.Nat.{ℕ, ◌≤◌}
use mathlib.Core.Path.{◌≡◌}
use Rattle.steel.specs.declared.query.Query.{Query}
use Rattle.steel.specs.Query.{InRange, depth_of}
use native.Mathlib.Omega.{arith}
use Rattle.numbers.proofs.Bounded.{◌⊗◌, #, fits}
use Rattle.steel.specs.Steel.{strain_area}
use Rattle.steel.proofs.Ranges.{k_most, grade_range, depth_range}
use Rattle.steel.proofs.areas.strain_area.Goals as goal

depth : {q : Query} {d : ℕ} → InRange q → d ≡ depth_of q → d ≤ 475
depth r e = rw e (depth_range r).1

factor : (c : goal.After-k_of) → c.k_of.result ≤ 1190
factor c = rw c.k_of.ensures (k_most _)

pub overflow_mul-result : goal.overflow_mul-result
unfolding strain_area
overflow_mul-result c = fits (# _ ⊗ factor c) tt

pub overflow_mul-result-2 : goal.overflow_mul-result-2
unfolding strain_area
overflow_mul-result-2 c = fits (# _ ⊗ factor c ⊗ c.requires.materials.0.1) tt

pub overflow_mul-result-3 : goal.overflow_mul-result-3
unfolding strain_area
overflow_mul-result-3 c = let r = c.requires in fits (# _ ⊗ factor c ⊗ r.materials.0.1 ⊗ r.width.1) tt

pub overflow_mul-result-4 : goal.overflow_mul-result-4
unfolding strain_area
overflow_mul-result-4 c = let r = c.requires in fits (# _ ⊗ factor c ⊗ r.materials.0.1 ⊗ r.width.1 ⊗ depth c.requires c.depth_of-d.ensures) tt

pub overflow_mul-result-5 : goal.overflow_mul-result-5
unfolding strain_area
overflow_mul-result-5 c = fits (# _ ⊗ (grade_range c.requires).1) tt

pub nonzero_div-result : goal.nonzero_div-result
unfolding strain_area
nonzero_div-result c = omega (arith, (grade_range c.requires).0)

pub returns : goal.returns
unfolding strain_area
returns c = rw (c.k_of.ensures, c.depth_of-d.ensures)
