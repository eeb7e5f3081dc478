-- The largest and the smallest of n values, and two numbers that are far apart.
-- Assumes nothing.
use Rattle.std.specs.Prelude.{ℕ, zero, suc, ◌*◌, min, max, Bool, ◌||◌, ltb}

-- of the values at the numbers below n; where there are none, the most is 0 and the least is the value at 0
unfoldable pub most_of : ℕ → (ℕ → ℕ) → ℕ
most_of zero v = 0
most_of (suc n) v = max (most_of n v) (v n)

unfoldable pub least_of : ℕ → (ℕ → ℕ) → ℕ
least_of zero v = v 0
least_of (suc n) v = min (least_of n v) (v n)

-- one of two numbers exceeds k times the other
abbrev pub apart : ℕ → ℕ → ℕ → Bool
apart k x y = ltb (k * y) x || ltb (k * x) y
