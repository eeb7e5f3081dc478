-- Where the column strip parts lie on a clear floor.
-- A part is a quotient whose dividend lies between two multiples of the divisor: `part_reach` and `outer_reach` bound what is taken off by
-- what is added, each product by the products of its bounds, and the ranges follow.
-- Assumes nothing.
use mathlib.Core.Path.{◌≡◌, ap}
use Prim.Native.Nat.{ℕ, ◌+◌, ◌-◌, ◌*◌, ◌≤◌}
use native.Mathlib.Nat.{mul-le-mul_left, mul-le-mul_right}
use native.Mathlib.Omega.{arith}
use Rattle.numbers.proofs.Bounded.{◌⊗◌}
use Rattle.strips.specs.Asked.{Crossing, ShareRatios, OuterRatios}
use Rattle.strips.specs.Strips.{part, outer_negative}

module _ {base crossover A R : ℕ} (l : Crossing base crossover) (s : ShareRatios A R) where
  -- a part moves from base, at A 0, to the line through 9000 and 4500, at A 10000
  pub part_reach :
      (450000000 + 3 * A * R ≤ base * 100000 + 3 * A * crossover)
      × (base * 100000 + 3 * A * crossover ≤ 900000000 + 3 * A * R)
  part_reach =
      omega (
        arith,
        ap (λ n. A * n) l.through,
        ap (λ n. base * n) left,
        mul-le-mul_left (10000 - A) l.least,
        mul-le-mul_left (10000 - A) l.most,
        mul-le-mul_left (3 * A) s.least,
        mul-le-mul_left (3 * A) s.most,
      )
    where
      left : A + (10000 - A) ≡ 10000
      left = omega arith

  pub part_in : (4500 ≤ part base crossover A R) × (part base crossover A R ≤ 9000)
  unfolding part
  part_in = omega (arith, part_reach.0, part_reach.1)

module _ {A R B : ℕ} (s : OuterRatios A R B) where
  -- more is taken off than is added, by no more than 5500 parts of 10000
  pub outer_reach :
      (B * (12 * A * 10000) ≤ B * (12 * A * R + 1000000000))
      × (B * (12 * A * R + 1000000000) ≤ B * (12 * A * 10000) + 55000000000000)
  outer_reach =
      omega (
        arith,
        mul-le-mul_left (12 * (A * B)) s.shared.least,
        mul-le-mul_left (12 * (A * B)) s.shared.most,
        mul-le-mul_right B s.shared.stiffness,
        s.shared.stiffness ⊗ s.torsion,
      )

  pub outer_in : (4500 ≤ outer_negative A R B) × (outer_negative A R B ≤ 10000)
  unfolding outer_negative
  outer_in = omega (arith, outer_reach.0, outer_reach.1)
