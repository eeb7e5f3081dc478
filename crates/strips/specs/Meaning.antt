-- What the column strip parts mean: 01's own formulas, over the integers, "floors toward minus infinity".
-- proofs/Signed shows that `between`, `inner_negative` and `outer_negative` (specs/Strips) are these parts for every A, R and B of a clear floor.
-- Assumes nothing.
use Rattle.std.specs.Prelude.{◌≡◌, ℕ, pos, ◌+ℤ◌, ◌-ℤ◌, ◌*ℤ◌}
use Rattle.numbers.specs.Rounding.{floor_of}

-- "between: 6000 + floor(3·A·(15000 − R)/100000)"
abbrev pub IsBetween : (A R part : ℕ) → Type 0
IsBetween A R part = pos part ≡ pos 6000 +ℤ floor_of (pos 3 *ℤ pos A *ℤ (pos 15000 -ℤ pos R)) 100000

-- "inner negative: 7500 + floor(3·A·(10000 − R)/100000)"
abbrev pub IsInnerNegative : (A R part : ℕ) → Type 0
IsInnerNegative A R part = pos part ≡ pos 7500 +ℤ floor_of (pos 3 *ℤ pos A *ℤ (pos 10000 -ℤ pos R)) 100000

-- "outer negative: 10000 + floor(B·(12·A·(10000 − R) − 1000000000)/10000000000)"
abbrev pub IsOuterNegative : (A R B part : ℕ) → Type 0
IsOuterNegative A R B part =
    pos part ≡ pos 10000 +ℤ floor_of (pos B *ℤ (pos 12 *ℤ pos A *ℤ (pos 10000 -ℤ pos R) -ℤ pos 1000000000)) 10000000000
