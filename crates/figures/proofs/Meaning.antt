-- A difference of at most a hundred hundredths of a percent, rounded up, is one percent: nothing is lost by the rounding.
-- Assumes nothing.
use Prim.Native.Nat.{ℕ, ◌*◌, ◌≤◌, max}
use native.Mathlib.Nat.{le_trans, mul-le-mul_right}
use native.Mathlib.Omega.{arith}
use Rattle.numbers.proofs.Rounded.{up_reaches, up_first}
use Rattle.figures.specs.Comparison.{apart, off_by, OnePercent}

module _ (theirs ours : ℕ) (some : 1 ≤ theirs) where
  hundred : 10000 * apart theirs ours ≤ 100 * max theirs 1 → OnePercent theirs ours
  hundred h = omega arith

  pub within_says : off_by theirs ours ≤ 100 → OnePercent theirs ours
  within_says h =
      hundred (le_trans (up_reaches (10000 * apart theirs ours) (omega arith)) (mul-le-mul_right (max theirs 1) h))

  pub within_holds : OnePercent theirs ours → off_by theirs ours ≤ 100
  within_holds h = up_first (10000 * apart theirs ours) 100 (omega arith) (omega arith)
