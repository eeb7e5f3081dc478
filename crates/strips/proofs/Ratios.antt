-- The ranges of A, R and B; and without an outer beam across an end its B is 0.
-- Assumes nothing.
use mathlib.Core.Path.{◌≡◌}
use Prim.Native.Nat.{ℕ, ◌*◌, ◌≤◌}
use native.Mathlib.Nat.{zero-div, le-div_iff_mul-le, div-le_of_le-mul}
use native.Mathlib.Omega.{arith}
use Rattle.strips.specs.Asked.{Proportioned}
use Rattle.strips.specs.Ratios.{stiffness_ratio, span_ratio, torsion_ratio}

-- "T of the outer beam across that end, 0 without one"
pub no_beam : (l2 t : ℕ) → torsion_ratio 0 l2 t ≡ 0
unfolding torsion_ratio
no_beam l2 t = rw (zero-div (l2 * (t * t * t)))

pub stiffness_most : (α l2 l1 : ℕ) → stiffness_ratio α l2 l1 ≤ 10000
unfolding stiffness_ratio
stiffness_most α l2 l1 = omega arith

-- the panel's sides bound the quotient: half a span to two
pub ratio_in : {l2 l1 : ℕ} → Proportioned l2 l1 → (5000 ≤ span_ratio l2 l1) × (span_ratio l2 l1 ≤ 20000)
unfolding span_ratio
ratio_in {l2} {l1} s = ((le-div_iff_mul-le {k = l1} (omega arith)).1 (omega arith), div-le_of_le-mul _ (omega arith))

pub torsion_most : (T l2 t : ℕ) → torsion_ratio T l2 t ≤ 25000
unfolding torsion_ratio
torsion_most T l2 t = omega arith
