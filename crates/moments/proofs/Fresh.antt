-- A change that is taken, made where the table is that of its floor, leaves the table of the floor it made: the records it does not write
-- have the same view before and after (SameView), and where a verdict is not clear it writes all.
-- Assumes nothing.
use Prim.Native.Nat.{ℕ, ◌*◌, ◌<◌, ◌≤◌}
use mathlib.Core.Bool.{Bool, false, cond, ◌&&◌, true≢false}
use mathlib.Core.List.{List}
use mathlib.Core.Path.{◌≡◌, refl, sym, ap, ◌∙◌}
use native.Mathlib.Omega.{arith}
use lib.ListN.{length}
use borrow.Author.Tests.{eq-eqb}
use Rattle.numbers.specs.Records.{written, every}
use Rattle.numbers.specs.Tests.{Says}
use Rattle.numbers.proofs.Tests.{says_eq, says_and, by_test}
use Rattle.numbers.proofs.Written.{length_written, same_written, rewritten}
use Rattle.plan.specs.declared.ways.Way.{Way}
use Rattle.plan.specs.declared.ways.Way.TheVariants.{X, Y}
use Rattle.plan.specs.Plan.{bays}
use Rattle.changes.specs.Change.{change_kind, change_index, changed}
use Rattle.changes.specs.Meaning.{TakenChange}
use Rattle.changes.proofs.Kept.{bays_kept}
use Rattle.limits.specs.Limits.{verdict, is_clear}
use Rattle.limits.specs.declared.Limit.TheVariants.{Few}
use Rattle.limits.proofs.Meaning.{broken, clear_is}
use Rattle.spans.specs.Record.{record_of}
use Rattle.tables.specs.Width.{record_width}
use Rattle.tables.specs.Places.{record_count, place_of}
use Rattle.tables.specs.Named.{named_at}
use Rattle.tables.specs.Blank.{zeros}
use Rattle.tables.proofs.Meaning.{says_named_at}
use Rattle.frames.specs.Table.{view_at, record_at, named_written}
use Rattle.moments.specs.Tables.{right_record, fresh}
use Rattle.moments.specs.Changing as changing
use Rattle.moments.proofs.SameView.{same_view}

-- every record has its numbers
pub record_full : (f : List ℕ) (k : ℕ) → record_width ≤ length (record_at f k)
unfolding record_of
record_full f k = omega arith

pub right_full : (f : List ℕ) (k : ℕ) → record_width ≤ length (right_record f k)
unfolding right_record
right_full f k = by_test {y = zeros k} (λ r. record_width ≤ length r) (says_eq (verdict f) 0) (λ _. record_full f k) (λ _. omega arith)

pub right_clear : (f : List ℕ) → verdict f ≡ 0 → (k : ℕ) → right_record f k ≡ record_at f k
unfolding right_record
right_clear f e k = rw (eq-eqb (verdict f) 0 e)

pub length_fresh : (f t : List ℕ) → record_count f * record_width ≤ length t → length (fresh f t) ≡ length t
unfolding fresh
length_fresh f t room = length_written record_width every (right_record f) (right_full f) (record_count f) t room

module _ (f c : List ℕ) (t : TakenChange f c) where
  abbrev g : List ℕ
  g = changed f c

  pub same_bays : (d : Way) → bays g d ≡ bays f d
  same_bays = bays_kept f c t.held t.fits

  pub count_kept : record_count g ≡ record_count f
  unfolding record_count
  count_kept = rw (same_bays X, same_bays Y)

  pub place_kept : (k : ℕ) → place_of g k ≡ place_of f k
  unfolding place_of
  place_kept k = rw (same_bays X, same_bays Y)

  pub named_kept : (kind index k : ℕ) → named_at g kind index k ≡ named_at f kind index k
  unfolding named_at
  named_kept kind index k = rw (place_kept k, same_bays (place_of f k).way)

  wide : verdict f ≡ 0 → (d : Way) → 3 ≤ bays f d
  wide e d = let h : ¬ (bays f d < 3) = λ q. (clear_is (broken f t.held)).0 e Few (d, 0, 0, ((refl, refl), q)) in omega arith

  -- a record that is not named is the same before and after
  same_record : (k : ℕ) → k < record_count f → verdict f ≡ 0 → named_at g (change_kind c) (change_index c) k ≡ false → record_at f k ≡ record_at g k
  unfolding view_at
  same_record k h e un =
      ap record_of
      (rw (place_kept k)
      (sym (same_view f c t (wide e) (place_of f k) (λ n. true≢false (sym ((says_named_at f (change_kind c) (change_index c) h).passes n) ∙ sym (named_kept _ _ k) ∙ un)))))

  -- what a change writes of the table of f makes it the table of g
  pub made_fresh : (lent : List ℕ) → record_count f * record_width ≤ length lent
      → changing.rewritten (is_clear f) g (change_kind c) (change_index c) (fresh f lent) ≡ fresh g lent
  unfolding changing.rewritten named_written fresh
  made_fresh lent room = by_clear (says_and (says_eq (verdict f) 0) (says_eq (verdict g) 0))
    where
      anew : (s : ℕ → Bool) → ((k : ℕ) → k < record_count f → s k ≡ false → right_record f k ≡ right_record g k)
          → written record_width s (right_record g) (record_count g) (written record_width every (right_record f) (record_count f) lent) ≡ written record_width every (right_record g) (record_count g) lent
      anew s same = rw count_kept (rewritten record_width s (right_record f) (right_record g) (right_full f) (right_full g) (record_count f) lent (omega arith) room same)

      by_clear : Says (is_clear f && is_clear g) ((verdict f ≡ 0) × (verdict g ≡ 0))
          → cond (is_clear f && is_clear g) (named_written g (change_kind c) (change_index c) (fresh f lent)) (fresh g (fresh f lent)) ≡ fresh g lent
      by_clear says =
          by_test (λ u. u ≡ fresh g lent) says
          (λ e. same_written record_width _ _ _ _ 0 (record_count g) _ (λ k _ _. refl) (λ k _ _. sym (right_clear g e.1 k))
          ∙ anew (named_at g (change_kind c) (change_index c)) (λ k h un. right_clear f e.0 k ∙ same_record k h e.0 un ∙ sym (right_clear g e.1 k)))
          (λ _. anew every (λ k h un. absurd (true≢false un)))
