-- A check of every record, at one of them, and put together from each.
-- Assumes nothing.
use Prim.Native.Nat.{ℕ, ◌+◌, ◌<◌}
use mathlib.Core.Bool.{true}
use mathlib.Core.List.{List}
use mathlib.Core.Path.{◌≡◌}
use native.Mathlib.Omega.{arith}
use Rattle.numbers.proofs.Tests.{at, intro}
use Rattle.records.proofs.Places.{counted_kind}
use Rattle.plan.specs.declared.ways.Way.TheVariants.{X, Y}
use Rattle.floor.specs.declared.refusal.Check.{Check}
use Rattle.plan.specs.Plan.{bays, many, start}
use Rattle.floor.specs.Refusal.{record_ok, kind_ok, every_record}

module _ (f : List ℕ) (check : Check) where
  pub at_record : every_record f check ≡ true → (k i : ℕ) → i < many f k → record_ok f check k i (start f k + i) ≡ true
  unfolding every_record kind_ok
  at_record h k i l =
      let kind = (counted_kind (bays f X) (bays f Y) k i l).1 in
      at (many f k) i _ (at 10 k _ h (omega arith)) l

  pub all_records : ((k i : ℕ) → i < many f k → record_ok f check k i (start f k + i) ≡ true) → every_record f check ≡ true
  unfolding every_record kind_ok
  all_records h = intro 10 _ (λ k hk. intro _ _ (λ i hi. h k i hi))
