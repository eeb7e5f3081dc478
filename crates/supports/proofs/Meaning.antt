-- What a support has is what request One says (GoverningAt): each way it may stand gives one face, whose five numbers are taken. And no
-- second list of five is: two lists with the numbers of one face are equal.
-- Assumes nothing.
use Prim.Native.Nat.{ℕ, zero, suc, ◌+◌, ◌-◌, ◌*◌, ◌≤◌, ◌<◌}
use mathlib.Core.List.{List}
use mathlib.Core.Path.{◌≡◌, refl, sym, ap, ◌∙◌}
use native.Mathlib.Decide.{dec_lt}
use native.Mathlib.Nat.{add_assoc, add-zero}
use native.Mathlib.Omega.{arith}
use lib.ListN.{get_or}
use lib.Seq.{ext_get_or}
use borrow.Author.Tests.{lt-ltb, le-ltb}
use Rattle.plan.specs.declared.read.Bays.{Bays}
use Rattle.tables.specs.Width.{record_width}
use Rattle.tables.specs.Places.{Place, line_first_in}
use Rattle.supports.specs.Governing.{five_from, low_end_of, high_end_of, governs, spans_of, support_in}
use Rattle.supports.specs.Meaning.{span_record, low_part, high_part, Taken, GoverningAt}
use Rattle.supports.proofs.Faces.{at_start, at_end, between, by_stand, length_on}

-- ---- the numbers of a face

five_at : (t : List ℕ) (i n : ℕ) → n < 5 → get_or (five_from t i) n 0 ≡ get_or t (i + n) 0
five_at t i zero h = rw add-zero
five_at t i (suc zero) h = refl
five_at t i (suc (suc zero)) h = refl
five_at t i (suc (suc (suc zero))) h = refl
five_at t i (suc (suc (suc (suc zero)))) h = refl
five_at t i (suc (suc (suc (suc (suc n))))) h = absurd (omega arith)

module _ (t : List ℕ) (r : ℕ) where
  section : (at : ℕ) → Taken (five_from t (r * record_width + at)) (λ n. get_or t (r * record_width + (at + n)) 0)
  section at n h = five_at t (r * record_width + at) n h ∙ ap (λ (i : ℕ). get_or t i 0) (add_assoc (r * record_width) at n)

  low_taken : Taken (low_end_of t r) (low_part t r)
  low_taken = section 1

  high_taken : Taken (high_end_of t r) (high_part t r)
  high_taken = section 11

-- ---- what a support has

module _ (b : Bays) (t : List ℕ) (p : Place) where
  abbrev first : ℕ
  first = line_first_in b p.way p.line

  abbrev n : ℕ
  n = spans_of b p.way

  -- the totals of the faces: of the span s below, and of the span above
  abbrev high_total : ℕ → ℕ
  high_total s = high_part t (span_record b p s) 0

  abbrev low_total : ℕ
  low_total = low_part t (span_record b p p.span) 0

  -- the span below, by its number
  below : (s : ℕ) → s + 1 ≡ p.span → first + p.span - 1 ≡ span_record b p s
  below s e = omega arith

  inner : (s : ℕ) → s + 1 ≡ p.span → p.span < n → support_in b t p ≡ governs (high_end_of t (span_record b p s)) (low_end_of t (span_record b p p.span))
  inner s e h = rw (← below s e) (sym (between t first n p.span (λ z. omega arith) (λ z. omega arith) refl refl refl))

  pub governing_is : GoverningAt b t p (support_in b t p)
  governing_is =
      record {
        count = length_on t first n p.span;
        start = λ z. rw (← at_start t first n p.span z refl, add-zero) (low_taken t first);
        end = λ s e q. rw (← at_end t first n p.span (λ z. omega arith) q (ap (high_end_of t) (sym (below s e)))) (high_taken t (span_record b p s));
        lower = λ s e h o. rw (inner s e h, le-ltb (high_total s) low_total o) (high_taken t (span_record b p s));
        higher = λ s e h o. rw (inner s e h, lt-ltb (high_total s) low_total o) (low_taken t (span_record b p p.span));
      }

  module _ {five five' : List ℕ} (h : GoverningAt b t p five) (h' : GoverningAt b t p five') where
    one_face : {face : ℕ → ℕ} → Taken five face → Taken five' face → five ≡ five'
    one_face q q' =
        ext_get_or 0 five five' (h.count ∙ sym h'.count) (λ i l. q i (omega (arith, h.count)) ∙ sym (q' i (omega (arith, h.count))))

    pub one_governing : p.span ≤ n → five ≡ five'
    one_governing top =
        by_stand p.span n
        (λ z. one_face (h.start z) (h'.start z))
        (λ z e. let o : p.span - 1 + 1 ≡ p.span = omega (arith, z) in one_face (h.end (p.span - 1) o e) (h'.end (p.span - 1) o e))
        (λ z e.
        let s = p.span - 1 in
        let o : s + 1 ≡ p.span = omega (arith, z) in
        let l : p.span < n = omega (arith, e) in
        elim (dec_lt (high_total s) low_total) [
          | yes q ↦ one_face (h.higher s o l q) (h'.higher s o l q)
          | no q ↦ let m : low_total ≤ high_total s = omega arith in one_face (h.lower s o l m) (h'.lower s o l m)
        ])
