-- Rounding, over the divisor.
-- Assumes nothing.
use Rattle.std.specs.Prelude.{ℕ, ◌+◌, ◌-◌, ◌*◌, ◌/◌, ◌≤◌, ◌<◌, ◌^◌, ℤ, pos, negsuc}

-- q is n/d rounded down: its multiple of d is reached, and the next one is not
pub record Down (n d q : ℕ) : Type 0 where
  pub reached : q * d ≤ n
  pub next : n < q * d + d

-- n/d, rounded up
abbrev pub up : ℕ → ℕ → ℕ
up n d = (n + (d - 1)) / d

-- n and d for which that can be worked out in 64 bits
pub record Quotient (n d : ℕ) : Type 0 where
  pub positive : 0 < d
  pub room : n + d < 2 ^ 64

-- k + floor((p − q)/d) of the integers, the floor toward minus infinity, wherever that is not negative: where q ≤ k·d + p, for d above 0
-- (proofs/Integers: plus_floor_is). For a larger q this is 0 and not that integer, because a difference of naturals stops at 0.
abbrev pub plus_floor : ℕ → ℕ → ℕ → ℕ → ℕ
plus_floor k p q d = (k * d + p - q) / d

-- floor(z/d) of an integer z, toward minus infinity
abbrev pub floor_of : ℤ → ℕ → ℤ
floor_of (pos n) d = pos (n / d)
floor_of (negsuc n) d = negsuc (n / d)
