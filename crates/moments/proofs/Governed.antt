-- The governing slice, number by number: what is left at every support and past them, and that no second slice is so.
-- Assumes nothing.
use Prim.Native.Nat.{ℕ, ◌*◌, ◌≤◌, ◌<◌}
use mathlib.Core.Bool.{Bool, cond}
use mathlib.Core.List.{List}
use mathlib.Core.Path.{◌≡◌, sym, ap, ◌∙◌}
use native.Mathlib.Omega.{arith}
use lib.ListN.{length, get_or, get_or-replicate}
use Rattle.numbers.specs.Records.{every}
use Rattle.numbers.specs.Tests.{Says}
use Rattle.numbers.proofs.Tests.{by_says, fails}
use Rattle.numbers.proofs.Written.{same_records}
use Rattle.plan.specs.declared.ways.Way.{Way}
use Rattle.plan.specs.declared.ways.Way.TheVariants.{X, Y}
use Rattle.plan.specs.Plan.{bays_of}
use Rattle.floor.specs.Refusal.{refusal}
use Rattle.floor.proofs.Fair.{fair}
use Rattle.tables.specs.Width.{record_width}
use Rattle.tables.specs.Places.{Place, Inside, record_count}
use Rattle.tables.proofs.Numbered.{place_inside, place_number}
use Rattle.supports.specs.Governing.{support_width, spans_of, support_count, support_number, support_place}
use Rattle.supports.specs.Beside.{beside_at}
use Rattle.supports.specs.Meaning.{Beside}
use Rattle.supports.proofs.Supports.{support_below, number_support, support_inside, support_number_lem}
use Rattle.supports.proofs.Governed.{length_governed, governed_past, governed_at}
use Rattle.supports.proofs.Same.{zero_support}
use Rattle.moments.specs.Lent.{Lent, lent}
use Rattle.moments.specs.Tables.{governing}
use Rattle.moments.specs.Meaning.{number_in, governing_in, by_table, Supported, Agrees, GoverningOf, GoverningNamed}

-- the test of which supports are written says what it means
abbrev pub SaysBeside : List ℕ → ℕ → ℕ → Type 0
SaysBeside f kind index = (p : Place) → Supported f p → Says (beside_at (bays_of f) kind index (support_number (bays_of f) p)) (Beside f kind index p)

-- everything lent is the same where each slice is
pub same_lent : {u v : Lent} → u.table ≡ v.table → u.governing ≡ v.governing → u ≡ v
same_lent {u} {v} p q = ap (λ (t : List ℕ). lent t u.governing) p ∙ ap (λ (g : List ℕ). lent v.table g) q

module _ (f : List ℕ) where
  pub some_spans : refusal f ≡ 0 → (d : Way) → 1 ≤ spans_of (bays_of f) d
  some_spans e X = ((fair f e).bays_in X).0
  some_spans e Y = ((fair f e).bays_in Y).0

  -- two slices of one length, alike at every support and past them
  pub by_supports : (g h : List ℕ) → length g ≡ length h
      → ((p : Place) → Supported f p → (n : ℕ) → n < support_width → governing_in f g p n ≡ governing_in f h p n)
      → ((i : ℕ) → support_count (bays_of f) * support_width ≤ i → get_or g i 0 ≡ get_or h i 0) → g ≡ h
  by_supports g h e inside past =
      same_records support_width (support_count (bays_of f)) g h (omega arith) e
      (λ k n hk hn. rw (support_number_lem (bays_of f) hk) at (inside (support_place (bays_of f) k) (support_inside (bays_of f) hk) n hn)) past

  -- agreement, at a place
  pub agrees_at : (l : Lent) → Agrees f l → (p : Place) → Supported f p → (n : ℕ) → n < support_width → governing_in f l.governing p n ≡ by_table f l.table p n
  agrees_at l agrees p h n hn = agrees (support_number (bays_of f) p) n (support_below (bays_of f) h) hn ∙ rw (number_support (bays_of f) h)

  -- number n of support p: by the table where s picks it, else as it was
  module _ (s : ℕ → Bool) (t g : List ℕ) (room : support_count (bays_of f) * support_width ≤ length g) where
    pub governing_at : (p : Place) → Supported f p → (n : ℕ) → n < support_width
        → governing_in f (governing f s t g) p n ≡ cond (s (support_number (bays_of f) p)) (by_table f t p n) (governing_in f g p n)
    governing_at p h n hn =
        governed_at (bays_of f) s t g room (support_number (bays_of f) p) n (support_below (bays_of f) h) hn
        ∙ rw (number_support (bays_of f) h)

  -- a table of zeros has supports of zeros
  pub by_zeros : refusal f ≡ 0 → (t : List ℕ) → ((p : Place) → Inside f p → (n : ℕ) → n < record_width → number_in f t p n ≡ 0)
      → (p : Place) → Supported f p → (n : ℕ) → n < support_width → by_table f t p n ≡ 0
  unfolding record_count
  by_zeros e t zero p h n hn =
      ap (λ (q : Place). by_table f t q n) (sym (number_support (bays_of f) h))
      ∙ ap (λ (r : List ℕ). get_or r n 0)
      (zero_support (bays_of f) t (some_spans e)
      (λ r hr m hm. rw (place_number f hr) at (zero _ (place_inside f hr) m hm)) (support_below (bays_of f) h))
      ∙ get_or-replicate support_width n 0 0 hn

  -- ---- all of it, or what is beside a named record

  module _ (l : Lent) (t : List ℕ) (room : support_count (bays_of f) * support_width ≤ length l.governing) where
    pub governing_of : GoverningOf f l (record { table = t; governing = governing f every t l.governing })
    governing_of =
        record {
          same_length = length_governed (bays_of f) every t l.governing room;
          past = governed_past (bays_of f) every t l.governing room;
          agrees = λ k n hk hn. governed_at (bays_of f) every t l.governing room k n hk hn;
        }

    pub governing_named : (kind index : ℕ) → SaysBeside f kind index
        → GoverningNamed f kind index l (record { table = t; governing = governing f (beside_at (bays_of f) kind index) t l.governing })
    governing_named kind index says =
        let s = beside_at (bays_of f) kind index in
        record {
          same_length = length_governed (bays_of f) s t l.governing room;
          past = governed_past (bays_of f) s t l.governing room;
          beside = λ p h q n hn. governing_at s t l.governing room p h n hn ∙ rw ((says p h).passes q);
          others = λ p h q n hn. governing_at s t l.governing room p h n hn ∙ rw (fails (says p h) q);
        }

  -- ---- and no second slice

  pub governing_of_one : {l u v : Lent} → u.table ≡ v.table → GoverningOf f l u → GoverningOf f l v → u.governing ≡ v.governing
  governing_of_one {l} {u} {v} e a b =
      by_supports u.governing v.governing (a.same_length ∙ sym b.same_length)
      (λ p h n hn. agrees_at u a.agrees p h n hn ∙ ap (λ (t : List ℕ). by_table f t p n) e ∙ sym (agrees_at v b.agrees p h n hn))
      (λ i h. a.past i h ∙ sym (b.past i h))

  pub governing_named_one : {kind index : ℕ} → SaysBeside f kind index → {l u v : Lent} → u.table ≡ v.table
      → GoverningNamed f kind index l u → GoverningNamed f kind index l v → u.governing ≡ v.governing
  governing_named_one says {l} {u} {v} e a b =
      by_supports u.governing v.governing (a.same_length ∙ sym b.same_length)
      (λ p h n hn.
      by_says (says p h) (λ q. a.beside p h q n hn ∙ ap (λ (t : List ℕ). by_table f t p n) e ∙ sym (b.beside p h q n hn))
      (λ q. a.others p h q n hn ∙ sym (b.others p h q n hn)))
      (λ i h. a.past i h ∙ sym (b.past i h))
