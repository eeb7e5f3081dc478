-- The table, number by number: what `fresh` and `named_written` leave at every span and past the records, and that no second table does.
-- A record is found by its span and a span by its record (crate tables, Numbered), so two tables alike at every span are equal.
-- Assumes nothing.
use Prim.Native.Nat.{ℕ, ◌*◌, ◌≤◌, ◌<◌}
use mathlib.Core.Bool.{cond}
use mathlib.Core.List.{List}
use mathlib.Core.Path.{◌≡◌, sym, ap, ◌∙◌}
use native.Mathlib.Omega.{arith}
use lib.ListN.{length, get_or, get_or-replicate}
use Rattle.numbers.specs.Records.{every}
use Rattle.numbers.specs.Tests.{Says}
use Rattle.numbers.proofs.Tests.{by_test, by_says, fails}
use Rattle.numbers.proofs.Written.{length_written, written_past, written_at, same_records}
use Rattle.floor.specs.Refusal.{refusal}
use Rattle.limits.specs.Meaning.{Clear}
use Rattle.limits.proofs.Meaning.{broken, clear_is, says_clear}
use Rattle.spans.specs.Record.{record_of}
use Rattle.tables.specs.Width.{record_width}
use Rattle.tables.specs.Places.{Place, Inside, number_of, place_of, record_count}
use Rattle.tables.specs.Named.{named_at}
use Rattle.tables.specs.Blank.{zeros}
use Rattle.tables.specs.Meaning.{Names}
use Rattle.tables.proofs.Numbered.{number_place, place_inside, place_number, number_below}
use Rattle.tables.proofs.Meaning.{says_named, says_named_at}
use Rattle.frames.specs.Table.{view_in, view_at, record_at, named_written}
use Rattle.moments.specs.Tables.{right_record, fresh}
use Rattle.moments.specs.Meaning.{number_in, TableOf, NamedOf}
use Rattle.moments.proofs.Fresh.{record_full, right_full, right_clear, length_fresh}

module _ (f : List ℕ) where
  -- two tables of one length, alike at every span and past the records
  by_places : (t u : List ℕ) → length t ≡ length u
      → ((p : Place) → Inside f p → (n : ℕ) → n < record_width → number_in f t p n ≡ number_in f u p n)
      → ((i : ℕ) → record_count f * record_width ≤ i → get_or t i 0 ≡ get_or u i 0) → t ≡ u
  by_places t u e inside past =
      same_records record_width (record_count f) t u (omega arith) e
      (λ k n hk hn. rw (place_number f hk) at (inside (place_of f k) (place_inside f hk) n hn)) past

  -- the record of a span is worked out from what is read of it
  record_in_view : (p : Place) → Inside f p → record_at f (number_of f p) ≡ record_of (view_in f p)
  unfolding view_at
  record_in_view p h = rw (number_place f h)

  module _ (t : List ℕ) (room : record_count f * record_width ≤ length t) where
    fresh_at : (p : Place) → Inside f p → (n : ℕ) → n < record_width → number_in f (fresh f t) p n ≡ get_or (right_record f (number_of f p)) n 0
    unfolding fresh
    fresh_at p h n hn = written_at record_width every (right_record f) (right_full f) (record_count f) t room (number_of f p) n (number_below f h) hn

    pub table_of : refusal f ≡ 0 → TableOf f t (fresh f t)
    unfolding fresh right_record
    table_of accepted =
        record {
          same_length = length_fresh f t room;
          past = written_past record_width every (right_record f) (right_full f) (record_count f) t room;
          stands = λ c p h n hn.
              fresh_at p h n hn ∙ ap (λ (r : List ℕ). get_or r n 0) (right_clear f ((clear_is (broken f accepted)).1 c) (number_of f p) ∙ record_in_view p h);
          broken = λ ne p h n hn. fresh_at p h n hn ∙ blank ne (number_of f p) n hn;
        }
      where
        blank : ¬ Clear f → (k n : ℕ) → n < record_width → get_or (right_record f k) n 0 ≡ 0
        blank ne k n hn =
            by_test {y = zeros k} (λ (r : List ℕ). get_or r n 0 ≡ 0) (says_clear f accepted) (λ c. absurd (ne c)) (λ _. get_or-replicate record_width n 0 0 hn)

    pub named_of : (kind index : ℕ) → NamedOf f kind index t (named_written f kind index t)
    unfolding named_written
    named_of kind index =
        record {
          same_length = length_written record_width (named_at f kind index) (record_at f) (record_full f) (record_count f) t room;
          past = written_past record_width (named_at f kind index) (record_at f) (record_full f) (record_count f) t room;
          named = λ p h q n hn. at p h n hn ∙ rw ((test p h).passes q) (ap (λ (r : List ℕ). get_or r n 0) (record_in_view p h));
          others = λ p h q n hn. at p h n hn ∙ rw (fails (test p h) q);
        }
      where
        at : (p : Place) → Inside f p → (n : ℕ) → n < record_width
            → number_in f (named_written f kind index t) p n ≡ cond (named_at f kind index (number_of f p)) (get_or (record_at f (number_of f p)) n 0) (number_in f t p n)
        at p h n hn = written_at record_width (named_at f kind index) (record_at f) (record_full f) (record_count f) t room (number_of f p) n (number_below f h) hn

        test : (p : Place) → (h : Inside f p) → Says (named_at f kind index (number_of f p)) (Names f kind index p)
        test p h = rw (number_place f h) at (says_named_at f kind index (number_below f h))

  -- ---- and no second table does

  pub table_of_one : refusal f ≡ 0 → {t u v : List ℕ} → TableOf f t u → TableOf f t v → u ≡ v
  table_of_one e {t} {u} {v} a b =
      by_places u v (a.same_length ∙ sym b.same_length)
      (λ p h n hn. by_says (says_clear f e) (λ c. a.stands c p h n hn ∙ sym (b.stands c p h n hn)) (λ ne. a.broken ne p h n hn ∙ sym (b.broken ne p h n hn)))
      (λ i h. a.past i h ∙ sym (b.past i h))

  pub named_of_one : {kind index : ℕ} {t u v : List ℕ} → NamedOf f kind index t u → NamedOf f kind index t v → u ≡ v
  named_of_one {kind} {index} {t} {u} {v} a b =
      by_places u v (a.same_length ∙ sym b.same_length)
      (λ p h n hn. by_says (says_named f kind index h) (λ q. a.named p h q n hn ∙ sym (b.named p h q n hn)) (λ q. a.others p h q n hn ∙ sym (b.others p h q n hn)))
      (λ i h. a.past i h ∙ sym (b.past i h))
