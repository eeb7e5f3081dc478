-- What each check says, both ways, put together from the parts of its test; and that `refusal` answers exactly the number given.
-- Checks 6 and 7 are in Beams.
-- Assumes nothing.
use Prim.Native.Nat.{ℕ, ◌*◌, ◌%◌}
use mathlib.Core.List.{List}
use mathlib.Core.Logic.{◌↔◌}
use mathlib.Core.Path.{◌≡◌}
use lib.ListN.{length}
use borrow.Author.Tests.{le-leb}
use Rattle.numbers.specs.Tests.{Says}
use Rattle.numbers.proofs.Tests.{says_le, says_eq, says_and}
use Rattle.numbers.specs.Chains.{Holds, Sound}
use Rattle.numbers.specs.Chains.Sound.{done, ◌then◌}
use Rattle.numbers.proofs.Chains.{answers, success}
use Rattle.records.specs.Kinds.{total}
use Rattle.records.proofs.Meaning.{says_sizes, says_values, says_zero}
use Rattle.plan.specs.declared.ways.Way.{Way}
use Rattle.plan.specs.declared.ways.Way.TheVariants.{X, Y}
use Rattle.floor.specs.declared.refusal.Check.{Check}
use Rattle.floor.specs.declared.refusal.Check.TheVariants.{Listed, Ranged}
use Rattle.plan.specs.Fields.{kind_at, index_at, part_at}
use Rattle.plan.specs.Ways.{pick}
use Rattle.plan.specs.Plan.{bays}
use Rattle.floor.specs.Refusal.{length_ok, head_is, first_ok, count_ok, record_ok, every_record, value_checks, floor_checks, refusal, Given}
use Rattle.floor.specs.Meaning.{Whole, HeadIs, First, Counted, EachRecord, AsListed, InRanges}
use Rattle.floor.specs.Passes.{Passes}
use Rattle.floor.proofs.Accepted.{at_record, all_records}
use Rattle.layouts.proofs.Beams.{says_columns, says_beams}

module _ (f : List ℕ) where
  pub says_whole : Says (length_ok f) (Whole f)
  unfolding length_ok
  says_whole = says_and (says_eq (length f % 16) 0) (says_le 224 (length f))

  says_head : (q k i : ℕ) → Says (head_is f q k i) (HeadIs f q k i)
  says_head q k i = says_and (says_eq (kind_at f q) k) (says_eq (index_at f q) i)

  pub says_first : Says (first_ok f) (First f)
  unfolding first_ok
  says_first = says_and (says_head 0 1 0) (says_sizes (part_at f 0 1) (part_at f 0 2) (part_at f 0 3))

  -- what refusal 3 and all after it take for nx and ny is what record 0 has
  pub first_bays : First f → (d : Way) → bays f d ≡ pick d (part_at f 0 1) (part_at f 0 2)
  unfolding bays
  first_bays h X = rw (le-leb (part_at f 0 1) 12 h.1.0.1)
  first_bays h Y = rw (le-leb (part_at f 0 2) 12 h.1.1.1)

  pub says_counted : Says (count_ok f) (Counted f)
  unfolding count_ok
  says_counted = says_eq (length f) (total (bays f X) (bays f Y) * 16)

  says_each : (check : Check) {P : ℕ → ℕ → ℕ → Type 0} → ((k i q : ℕ) → Says (record_ok f check k i q) (P k i q)) → Says (every_record f check) (EachRecord f P)
  says_each check s =
      record {
        holds = λ e k i l. (s k i _).holds (at_record f check e k i l);
        passes = λ h. all_records f check (λ k i l. (s k i _).passes (h k i l));
      }

  pub says_listed : Says (every_record f Listed) (AsListed f)
  unfolding record_ok
  says_listed = says_each Listed (λ k i q. says_and (says_head q k i) (says_zero k (part_at f q 2) (part_at f q 3)))

  pub says_ranges : Says (every_record f Ranged) (InRanges f)
  unfolding record_ok
  says_ranges = says_each Ranged (λ k i q. says_values k (part_at f q 1) (part_at f q 2) (part_at f q 3))

  -- ---- "given exactly when"

  pub sound_values : Sound (value_checks f)
  unfolding value_checks
  sound_values = says_ranges then says_columns f then says_beams f then done

  pub sound_floor : Sound (floor_checks f)
  unfolding floor_checks
  sound_floor = says_whole then says_first then says_counted then says_listed then sound_values

pub given : (n : ℕ) (f : List ℕ) → (refusal f ≡ n) ↔ Given n f
unfolding refusal
given n f = answers (sound_floor f) n

pub passes : (f : List ℕ) → refusal f ≡ 0 → Passes f
unfolding refusal floor_checks value_checks Holds
passes f e =
    let h : Holds (floor_checks f) = (success (sound_floor f)).0 e in
    record {
      whole = h.0;
      first = h.1.0;
      counted = h.1.1.0;
      listed = h.1.1.1.0;
      ranged = h.1.1.1.1.0;
      columns = h.1.1.1.1.1.0;
      beams = h.1.1.1.1.1.1.0;
    }
