-- "Moments": "Column strip parts of 10000, floors toward minus infinity", and a section total divided between the strips.
-- The parts are defined over the naturals, as they are computed; specs/Meaning says them over the integers, as 01 does, and proofs/Signed shows that
-- the two agree.
-- Assumes nothing.
use Rattle.std.specs.Prelude.{◌≡◌, ℕ, ◌+◌, ◌-◌, ◌*◌, ◌/◌, ◌≤◌}
use Rattle.numbers.specs.Rounding.{plus_floor}
use Rattle.strips.specs.declared.strip.Strips.{Strips}

-- ---- the parts

-- base + floor(3·A·(crossover − R)/100000)
unfoldable pub part : ℕ → ℕ → ℕ → ℕ → ℕ
part base crossover A R = plus_floor base (3 * A * crossover) (3 * A * R) 100000

-- "between: 6000 + floor(3·A·(15000 − R)/100000)"
abbrev pub between : ℕ → ℕ → ℕ
between = part 6000 15000

-- "inner negative: 7500 + floor(3·A·(10000 − R)/100000)"
abbrev pub inner_negative : ℕ → ℕ → ℕ
inner_negative = part 7500 10000

-- "outer negative: 10000 + floor(B·(12·A·(10000 − R) − 1000000000)/10000000000)"
unfoldable pub outer_negative : ℕ → ℕ → ℕ → ℕ
outer_negative A R B = plus_floor 10000 (B * (12 * A * 10000)) (B * (12 * A * R + 1000000000)) 10000000000

-- ---- the strips

-- n parts of d, rounded down
abbrev pub share : ℕ → ℕ → ℕ → ℕ
share total n d = total * n / d

-- that number, and no more than the total
pub record ShareOf (total n d r : ℕ) : Type 0 where
  pub is : r ≡ share total n d
  pub most : r ≤ total

-- "On a fully restrained side the outer negative spreads evenly instead: column strip = total·wc/W rounded down"
abbrev pub even_strip : ℕ → ℕ → ℕ → ℕ
even_strip total wc W = share total wc W

-- "Column strip = total·part/10000 down"
abbrev pub column_strip : ℕ → ℕ → ℕ
column_strip total part = share total part 10000

-- "Beam = column·g/10000 down, g = 85·A/100 down"
unfoldable pub beam_share : ℕ → ℕ → ℕ
beam_share column A = share column (85 * A / 100) 10000

-- "middle = the rest", "slab = the rest"
unfoldable pub split : ℕ → ℕ → ℕ → Strips
split total column A =
    record {
      total = total;
      column = column;
      middle = total - column;
      beam = beam_share column A;
      slab = column - beam_share column A;
    }
