-- A change that fits an accepted floor leaves 1 to 4 without ground, so the changed floor's refusal is what 5 to 7 say of it: its length,
-- its sizes and every other record are the held floor's, and the change's own record is as listed because it fits.
-- Assumes nothing.
use Prim.Native.Nat.{ℕ, ◌+◌, ◌<◌}
use mathlib.Core.List.{List}
use mathlib.Core.Path.{◌≡◌, refl}
use native.Mathlib.Decide.{ℕ_discrete}
use native.Mathlib.Omega.{arith}
use Rattle.records.specs.Meaning.{Zero}
use Rattle.plan.specs.declared.ways.Way.TheVariants.{X, Y}
use Rattle.plan.specs.declared.read.Bays.{Bays}
use Rattle.plan.specs.Asked.{Sized}
use Rattle.plan.specs.Fields.{part_b, part_c, part_at}
use Rattle.plan.specs.Plan.{bays_of, many, start}
use Rattle.numbers.specs.Chains.{tried}
use Rattle.floor.specs.Refusal.{floor_checks, values_refusal, refusal}
use Rattle.floor.specs.Asked.{Filed}
use Rattle.floor.specs.Meaning.{Whole, HeadIs, First, Counted, AsListed}
use Rattle.floor.proofs.Meaning.{says_whole, says_first, says_counted, says_listed, passes}
use Rattle.changes.specs.Change.{change_kind, change_index, change_place, changed}
use Rattle.changes.specs.Meaning.{Fitting}
use Rattle.changes.proofs.Placing.{length_changed}
use Rattle.changes.proofs.Alike.{Alike, kind_alike, index_alike, part_alike}
use Rattle.changes.proofs.Kept.{Other, own_record, other_record, first_record, bays_kept, many_kept, start_kept}

-- record q of f is as listed for kind k and index i
abbrev ListedAt : List ℕ → ℕ → ℕ → ℕ → Type 0
ListedAt f k i q = HeadIs f q k i × Zero k (part_at f q part_b) (part_at f q part_c)

listed_alike : {g : List ℕ} {q : ℕ} {h : List ℕ} {q' : ℕ} → Alike g q h q' → (k i : ℕ) → ListedAt h k i q' → ListedAt g k i q
listed_alike same k i l =
    rw (kind_alike same, index_alike same, part_alike same 2 (omega arith), part_alike same 3 (omega arith)) l

module _ (f c : List ℕ) (held : refusal f ≡ 0) (fit : Fitting f c) where
  whole : Whole (changed f c)
  whole = rw (length_changed f c held fit) (passes f held).whole

  first : First (changed f c)
  first =
      let same = first_record f c held fit in
      rw (
        kind_alike same,
        index_alike same,
        part_alike same 1 (omega arith),
        part_alike same 2 (omega arith),
        part_alike same 3 (omega arith),
      )
      (passes f held).first

  counted : Counted (changed f c)
  counted =
      rw (length_changed f c held fit, bays_kept f c held fit X, bays_kept f c held fit Y) (passes f held).counted

  own_listed : ListedAt (changed f c) (change_kind c) (change_index c) (change_place (bays_of f) c)
  own_listed = listed_alike (own_record f c held fit) (change_kind c) (change_index c) ((refl, refl), fit.zeros)

  each_listed : (k i : ℕ) → i < many f k → ListedAt (changed f c) k i (start f k + i)
  each_listed k i h =
      elim (ℕ_discrete k (change_kind c)) [
        | yes ek ↦
            elim (ℕ_discrete i (change_index c)) [
              | yes ei ↦ rw (ek, ei) own_listed
              | no ne ↦ other (λ _ e. ne e)
            ]
        | no ne ↦ other (λ e _. ne e)
      ]
    where
      other : Other c k i → ListedAt (changed f c) k i (start f k + i)
      other ne = listed_alike (other_record f c held fit k i h ne) k i ((passes f held).listed k i h)

  listed : AsListed (changed f c)
  listed k i h = rw (start_kept f c held fit k) (each_listed k i (rw (many_kept f c held fit k) at h))

  -- so 5 to 7 have what they ask, and the bays of the held floor
  pub filed : Filed (changed f c)
  filed = record { first = first; counted = counted }

  pub sized : {b : Bays} → Sized f b → Sized (changed f c) b
  sized h =
      record {
        is = rw (bays_kept f c held fit X, bays_kept f c held fit Y) h.is;
        x = rw (bays_kept f c held fit X) h.x;
        y = rw (bays_kept f c held fit Y) h.y;
        x_most = h.x_most;
        y_most = h.y_most;
      }

  pub values_decide : refusal (changed f c) ≡ values_refusal (changed f c)
  unfolding refusal floor_checks values_refusal tried
  values_decide =
      rw ((says_whole _).passes whole, (says_first _).passes first, (says_counted _).passes counted, (says_listed _).passes listed)
