-- The clear length loses nothing to its division by 100, and the static moment is the least whole number that reaches its quotient; with the range of each.
-- Assumes nothing.
use mathlib.Core.Path.{◌≡◌}
use Prim.Native.Nat.{ℕ, ◌+◌, ◌-◌, ◌*◌, ◌/◌, ◌%◌, ◌≤◌, max}
use native.Mathlib.Nat.{mul-mod_right}
use native.Mathlib.Omega.{arith}
use lib.Dec.{lit<}
use Rattle.numbers.specs.Least.{Least}
use Rattle.numbers.proofs.Bounded.{◌⊕◌, ◌⊗◌, #}
use Rattle.numbers.proofs.Rounded.{exact, up_reaches, up_first}
use Rattle.strips.specs.Asked.{SpanSizes, Loaded}
use Rattle.strips.specs.Moments.{clear_length, static_moment}

-- a hundred clear lengths are 01's maximum a hundred times over, with no rounding in it
pub clear_exact : (l1 column : ℕ) → l1 % 20 ≡ 0 → 100 * clear_length l1 column ≡ max (100 * (l1 - column)) (65 * l1)
unfolding clear_length
clear_exact l1 column twenties = omega (arith, exact (65 * l1) 100 (rw hundreds (mul-mod_right 100 (13 * (l1 / 20)))))
  where
    hundreds : 65 * l1 ≡ 100 * (13 * (l1 / 20))
    hundreds = omega (arith, exact l1 20 twenties)

-- "rounded up"
pub moment_least : (D L W ln : ℕ) → Least (λ m. (12 * D + 16 * L) * W * (ln * ln) ≤ m * 80000000000) (static_moment D L W ln)
unfolding static_moment
moment_least D L W ln = record { holds = up_reaches _ {d = 80000000000} (lit< tt); first = λ m h. up_first _ m (lit< tt) h }

-- ---- their ranges

pub clear_most : {l1 column : ℕ} → SpanSizes l1 column → clear_length l1 column ≤ 12000
unfolding clear_length
clear_most s = omega arith

pub moment_most : {D L W ln : ℕ} → Loaded D L W ln → static_moment D L W ln ≤ 25056000
unfolding static_moment
moment_most s = omega (arith, (# 12 ⊗ s.dead ⊕ # 16 ⊗ s.live) ⊗ s.width ⊗ (s.clear ⊗ s.clear))
