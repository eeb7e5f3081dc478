-- The least area over any limits: the first area that carries the moment, where it is not above the largest, is the least within them; where it
-- is, there is none.
-- Assumes nothing.
use Prim.Native.Nat.{ℕ, suc, ◌-◌, ◌*◌, ◌≤◌, ◌<◌}
use native.Mathlib.Nat.{mul-le-mul_right}
use native.Mathlib.Omega.{arith}
use Rattle.numbers.specs.Least.{Least}
use Rattle.numbers.specs.Tests.{Says}
use Rattle.steel.specs.declared.search.Limits.{Limits}
use Rattle.steel.specs.Asked.{Searchable}
use Rattle.steel.specs.Search.{Carries, Within, carries, first_within}
use Rattle.steel.proofs.Carrying.{says_carries}
use Rattle.steel.proofs.First.{First, first_first}

module _ {l : Limits} (s : Searchable l) where
  -- with the largest area, each smaller one lies left of the top
  pub left : (As : ℕ) → As ≤ l.most → 20 * As * l.fy < l.block
  left As h = omega (arith, mul-le-mul_right l.fy h, s.rising)

  -- and the test says 01's inequality
  says_moment : (As : ℕ) → As ≤ l.most → Says (carries l.fy l.block l.load As) (Carries l.fy l.block l.load As)
  says_moment As h = says_carries l.fy l.block l.load As (omega (arith, left As h))

  pub is_first : First (carries l.fy l.block l.load) (suc l.most - l.least) l.least (first_within l)
  unfolding first_within
  is_first = first_first (carries l.fy l.block l.load) (suc l.most - l.least) l.least

  -- no area within the limits is smaller
  first_below : (As : ℕ) → Within l As → ¬ (As < first_within l)
  first_below As w h = is_first.below As w.minimum h ((says_moment As w.strain).passes w.moment)

  pub least_within_lem : first_within l ≤ l.most → Least (Within l) (first_within l)
  least_within_lem h =
      record {
        holds = record {
          moment = (says_moment (first_within l) h).holds (is_first.passes (omega (arith, is_first.from)));
          minimum = is_first.from;
          strain = h;
        };
        first = λ As w. omega (arith, first_below As w);
      }

  pub none_within : l.most < first_within l → (As : ℕ) → ¬ Within l As
  none_within h As w = first_below As w (omega (arith, w.strain))
