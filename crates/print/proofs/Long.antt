-- Two inputs longer than any floor, with the same length modulo 16 and the same first record, have the same refusal: 1, 2 or 3. No floor asks
-- for more than 223 records, so check 3 fails of both, and 1 and 2 look at nothing else; and no room for a table is asked for.
-- Assumes nothing.
use Prim.Native.Nat.{ℕ, ◌%◌, ◌<◌}
use mathlib.Core.Bool.{Bool, true, false, cond}
use mathlib.Core.List.{List}
use mathlib.Core.Path.{◌≡◌}
use native.Mathlib.Omega.{arith}
use lib.ListN.{length, get_or}
use borrow.Author.Tests.{ne_eqb, le-leb}
use Rattle.records.proofs.Places.{total_most}
use Rattle.plan.specs.declared.ways.Way.TheVariants.{X, Y}
use Rattle.plan.specs.Fields.{le16, le32}
use Rattle.plan.specs.Plan.{bays}
use Rattle.plan.proofs.Reading.{bays_most}
use Rattle.numbers.specs.Chains.{tried}
use Rattle.numbers.proofs.Chains.{earlier}
use Rattle.floor.specs.Refusal.{length_ok, first_ok, count_ok, floor_checks, refusal}
use Rattle.moments.specs.Lent.{Lent}
use Rattle.moments.specs.Tables.{room_checks}
use Rattle.moments.specs.Opening.{open_checks, open_refusal}

too_many : (f : List ℕ) → 3568 < length f → count_ok f ≡ false
unfolding count_ok
too_many f h =
    ne_eqb (length f) _ (λ e. omega (arith, e, total_most (bays f X) (bays f Y) (record { x = bays_most f X; y = bays_most f Y })))

module _ (f g : List ℕ) (alike : (n : ℕ) → n < 16 → get_or f n 0 ≡ get_or g n 0) where
  same_first : first_ok f ≡ first_ok g
  unfolding first_ok le16 le32
  same_first =
      rw (
        alike 0 (omega arith),
        alike 1 (omega arith),
        alike 2 (omega arith),
        alike 3 (omega arith),
        alike 4 (omega arith),
        alike 5 (omega arith),
        alike 6 (omega arith),
        alike 7 (omega arith),
        alike 8 (omega arith),
        alike 9 (omega arith),
        alike 10 (omega arith),
        alike 11 (omega arith),
        alike 12 (omega arith),
        alike 13 (omega arith),
        alike 14 (omega arith),
        alike 15 (omega arith),
      )

  pub long_alike : 3568 < length f → 3568 < length g → length f % 16 ≡ length g % 16 → refusal f ≡ refusal g
  unfolding refusal floor_checks length_ok tried
  long_alike hf hg e =
      rw (e, same_first, too_many f hf, too_many g hg, le-leb 224 (length f) (omega arith), le-leb 224 (length g) (omega arith))

one_of_three : (a b : Bool) → ◌≡◌ {A = ℕ} (cond a (cond b 3 2) 1) 0 → ⊥
one_of_three true true e = omega (arith, e)
one_of_three true false e = omega (arith, e)
one_of_three false b e = omega (arith, e)

pub long_refused : (f : List ℕ) → 3568 < length f → refusal f ≡ 0 → ⊥
unfolding refusal floor_checks tried
long_refused f h e = one_of_three (length_ok f) (first_ok f) (rw (too_many f h) at e)

pub opened_long : (f : List ℕ) (l : Lent) → 3568 < length f → open_refusal f l ≡ refusal f
unfolding open_refusal open_checks refusal
opened_long f l h = earlier (floor_checks f) (room_checks f l) (long_refused f h)
