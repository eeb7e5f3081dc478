-- What the comparison of a panel's two stiffnesses may rely on.
-- Assumes nothing.
use Rattle.std.specs.Prelude.{ℕ, ◌≤◌}

-- the sums of α of a panel's lines along x and along y, in ten-thousandths, and its spans, in decimetres
pub record Sums (ax y ay x : ℕ) : Type 0 where
  pub ax_most : ax ≤ 400000000
  pub y_span : y ≤ 120
  pub ay_most : ay ≤ 400000000
  pub x_span : x ≤ 120
