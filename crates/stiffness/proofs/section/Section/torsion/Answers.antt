-- x³(100y − 63x): x is at most 1000 and y at most 2200.
-- Assumes nothing.
use Prim.Native.Nat.{◌*◌, ◌-◌, ◌≤◌}
use native.Mathlib.Omega.{arith}
use Rattle.numbers.proofs.Bounded.{◌⊗◌, ◌⊖◌, #, cubed, fits}
use Rattle.stiffness.specs.Sections.{torsion}
use Rattle.stiffness.proofs.section.Section.torsion.Goals as goal

-- of the two sides
most : {x y : _} → x ≤ 1000 → y ≤ 2200 → x * x * x * (100 * y - 63 * x) ≤ 220000000000000
most {x} p q = cubed p ⊗ (# 100 ⊗ q ⊖ (63 * x))

pub overflow_mul-result-5 : goal.overflow_mul-result-5
overflow_mul-result-5 c = fits (most (omega arith) (omega arith)) tt

pub returns : goal.returns
unfolding torsion
returns c = ((cc), most (omega arith) (omega arith))
