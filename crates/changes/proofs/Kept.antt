-- "A field of any record other than the changed one reads as before" (kept), and the changed one reads what the change says (own):
-- two records never share a place (Places.one_place), so of another record every byte stays.
-- Assumes nothing.
use Prim.Native.Nat.{ℕ, ◌+◌, ◌<◌, ◌≤◌}
use mathlib.Core.List.{List}
use mathlib.Core.Logic.{⊎_elim}
use mathlib.Core.Path.{◌≡◌, ap, ◌∙◌}
use native.Mathlib.Decide.{dec_lt}
use native.Mathlib.Omega.{arith}
use lib.ListN.{get_or}
use borrow.Author.Tests.{lt-ltb, le-ltb}
use Rattle.numbers.proofs.Records.{put_own, put_other}
use Rattle.records.specs.Kinds.{count_of, start_of}
use Rattle.records.proofs.Places.{one_place}
use Rattle.plan.specs.declared.ways.Way.{Way}
use Rattle.plan.specs.declared.ways.Way.TheVariants.{X, Y}
use Rattle.plan.specs.Fields.{part_at}
use Rattle.plan.specs.Plan.{bays, bays_of, many, start, value}
use Rattle.floor.specs.Refusal.{refusal}
use Rattle.changes.specs.Change.{change_kind, change_index, change_place, changed}
use Rattle.changes.specs.Meaning.{Fitting}
use Rattle.changes.proofs.Placing.{place_room, changed_is}
use Rattle.changes.proofs.Alike.{Alike, part_alike}

-- the record of kind k and index i is not the one that c changes
abbrev pub Other : List ℕ → ℕ → ℕ → Type 0
Other c k i = k ≡ change_kind c → i ≡ change_index c → ⊥

module _ (f c : List ℕ) (held : refusal f ≡ 0) (fit : Fitting f c) where
  -- ---- the bytes of one record

  pub own_record : Alike (changed f c) (change_place (bays_of f) c) c 0
  own_record =
      record {
        bytes = λ n l. rw (changed_is f c)
            (put_own 16 (change_place (bays_of f) c) c f (place_room f c held fit) (omega (arith, fit.full)) n l ∙ ap (λ (i : ℕ). get_or c i 0) (omega arith));
      }

  pub other_record : (k i : ℕ) → i < many f k → Other c k i → Alike (changed f c) (start f k + i) f (start f k + i)
  other_record k i h other =
      record {
        bytes = λ n l. rw (changed_is f c)
            (put_other 16 (change_place (bays_of f) c) c f (place_room f c held fit) (omega (arith, fit.full)) (start f k + i) n apart l);
      }
    where
      apart : start f k + i ≡ change_place (bays_of f) c → ⊥
      apart e =
          let q = one_place (bays f X) (bays f Y) k i (change_kind c) (change_index c) h fit.index e in
          other q.0 q.1

  -- record 0, which has the sizes, cannot be changed
  pub first_record : Alike (changed f c) 0 f 0
  unfolding start_of count_of
  first_record = other_record 1 0 (omega arith) (λ e z. ⊎_elim (λ q. omega arith) (λ r. omega arith) fit.kind)

  -- ---- so counts and places stay

  pub bays_kept : (d : Way) → bays (changed f c) d ≡ bays f d
  unfolding bays
  bays_kept d = rw (part_alike first_record 1 (omega arith), part_alike first_record 2 (omega arith))

  pub many_kept : (k : ℕ) → many (changed f c) k ≡ many f k
  many_kept k = rw (bays_kept X, bays_kept Y)

  pub start_kept : (k : ℕ) → start (changed f c) k ≡ start f k
  start_kept k = rw (bays_kept X, bays_kept Y)

  -- ---- and so does every value but the change's own

  pub kept : (k i part : ℕ) → part ≤ 3 → Other c k i → value (changed f c) k i part ≡ value f k i part
  unfolding value
  kept k i part h other =
      rw (many_kept k, start_kept k)
      (elim (dec_lt i (many f k)) [
        | yes l ↦ rw (lt-ltb i (many f k) l) (part_alike (other_record k i l other) part h)
        | no l ↦ rw (le-ltb i (many f k) (omega arith))
      ])

  pub own : (part : ℕ) → part ≤ 3 → value (changed f c) (change_kind c) (change_index c) part ≡ part_at c 0 part
  unfolding value
  own part h =
      rw (many_kept (change_kind c), start_kept (change_kind c), lt-ltb _ _ fit.index) (part_alike own_record part h)
