-- What the test of a query's range says, and the ranges that its numbers keep, the depth with them.
-- Assumes nothing.
use Prim.Native.Nat.{ℕ, ◌-◌, ◌≤◌}
use mathlib.Core.Logic.{⊎_elim}
use native.Mathlib.Omega.{arith}
use Rattle.numbers.specs.Tests.{Says}
use Rattle.numbers.proofs.Tests.{says_eq, says_le, says_and, says_or, says_as, by_test}
use Rattle.records.specs.Meaning.{In}
use Rattle.records.proofs.Meaning.{says_within, says_materials}
use Rattle.steel.specs.declared.query.Query.{Query}
use Rattle.steel.specs.Query.{InRange, depth_of, depth_listed, in_range}
use Rattle.steel.specs.Area.{K}

pub says_in_range : (q : Query) → Says (in_range q) (InRange q)
unfolding in_range depth_listed
says_in_range q =
    says_as
    (λ h. record { moment = h.0.0; width = h.0.1; thickness = h.1.0.0; depth = h.1.0.1; materials = h.1.1 })
    (λ r. ((r.moment, r.width), ((r.thickness, r.depth), r.materials)))
    (says_and (says_and (says_le q.m 2000000000) (says_within 1 12000 q.b))
    (says_and (says_and (says_within 90 500 q.t) (says_or (says_within 50 (q.t - 25) q.d) (says_eq q.d 0)))
    (says_materials q.fc q.fy)))

-- the factor of the strain limit is at most that of weak concrete
pub k_most : (fc : ℕ) → K fc ≤ 1190
unfolding K
k_most fc =
    by_test (λ n. n ≤ 1190) (says_le fc 28) (λ h. omega arith)
    (λ h. by_test (λ n. n ≤ 1190) (says_le 56 fc) (λ g. omega arith) (λ g. omega (arith, h)))

module _ {q : Query} (r : InRange q) where
  pub grade_range : (280 ≤ q.fy) × (q.fy ≤ 520)
  grade_range = ⊎_elim (λ e. omega arith) (⊎_elim (λ e. omega arith) (λ e. omega arith)) r.materials.1

  -- 02, Six: "At t = 90 the default is 52, still in range"
  pub depth_in : In 50 (q.t - 25) (depth_of q)
  unfolding depth_of
  depth_in =
      by_test (In 50 (q.t - 25)) (says_eq q.d 0) (λ e. (omega (arith, r.thickness), omega (arith, r.thickness)))
      (λ n. ⊎_elim (λ h. h) (λ e. absurd (n e)) r.depth)

  pub depth_range : (50 ≤ depth_of q) × (depth_of q ≤ 475)
  depth_range = (depth_in.0, omega (arith, depth_in.1, r.thickness))
