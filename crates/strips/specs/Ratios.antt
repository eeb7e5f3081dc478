-- "Moments": what a section total is shared out by, in ten-thousandths, "rounded down".
-- Assumes nothing.
use Rattle.std.specs.Prelude.{ℕ, ◌*◌, ◌/◌, min}

-- "A = min(10000, α·l2/l1)"
unfoldable pub stiffness_ratio : ℕ → ℕ → ℕ → ℕ
stiffness_ratio α l2 l1 = min 10000 (α * l2 / l1)

-- "R = 10000·l2/l1"
unfoldable pub span_ratio : ℕ → ℕ → ℕ
span_ratio l2 l1 = 10000 * l2 / l1

-- "B = min(25000, 200·T/(l2·t³)) with T of the outer beam across that end, 0 without one": T is 0 without one, and so is B (no_beam)
unfoldable pub torsion_ratio : ℕ → ℕ → ℕ → ℕ
torsion_ratio T l2 t = min 25000 (200 * T / (l2 * (t * t * t)))
