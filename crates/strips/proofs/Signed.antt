-- The column strip parts are 01's own: over the integers, with floors toward minus infinity.
-- Assumes nothing.
use mathlib.Core.Path.{◌≡◌}
use Prim.Native.Nat.{ℕ, ◌*◌}
use native.Mathlib.Omega.{arith}
use lib.Dec.{lit<}
use lib.IntN.{pos, ◌+ℤ◌, ◌-ℤ◌, ◌*ℤ◌}
use borrow.Author.Rules.{rules}
use Rattle.numbers.specs.Rounding.{floor_of}
use Rattle.numbers.proofs.Integers.{plus_floor_is, times_sub, sub_sub, diff}
use Rattle.strips.specs.Asked.{Crossing, ShareRatios, OuterRatios}
use Rattle.strips.specs.Meaning.{IsBetween, IsInnerNegative, IsOuterNegative}
use Rattle.strips.specs.Strips.{part, between, inner_negative, outer_negative}
use Rattle.strips.proofs.Parts.{part_reach, outer_reach}

module _ {A R : ℕ} (s : ShareRatios A R) where
  part_is :
      {base crossover : ℕ} → Crossing base crossover
      → pos (part base crossover A R) ≡ pos base +ℤ floor_of (pos 3 *ℤ pos A *ℤ (pos crossover -ℤ pos R)) 100000
  unfolding part
  part_is {base} {crossover} l =
      rw (diff crossover R, times_sub (3 * A) crossover R)
      (plus_floor_is base _ _ 100000 (lit< tt) (omega (arith, (part_reach l s).0)))

  pub between_is : IsBetween A R (between A R)
  between_is = part_is (search rules)

  pub inner_negative_is : IsInnerNegative A R (inner_negative A R)
  inner_negative_is = part_is (search rules)

pub outer_negative_is : {A R B : ℕ} → OuterRatios A R B → IsOuterNegative A R B (outer_negative A R B)
unfolding outer_negative
outer_negative_is {A} {R} {B} s =
    rw (diff 10000 R, times_sub (12 * A) 10000 R, sub_sub, times_sub B)
    (plus_floor_is 10000 _ _ 10000000000 (lit< tt) (omega (arith, (outer_reach s).1)))
