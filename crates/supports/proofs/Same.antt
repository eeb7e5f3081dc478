-- A support has its numbers from the records of the spans that adjoin it and from no other, so two tables that agree there give it the same
-- numbers; with a table of zeros it has five zeros.
-- Assumes nothing.
use Prim.Native.Nat.{ℕ, ◌+◌, ◌-◌, ◌*◌, ◌≤◌, ◌<◌}
use mathlib.Core.List.{List, []}
use mathlib.Core.Logic.{inl, inr}
use mathlib.Core.Path.{◌≡◌, refl, sym, ap, ◌∙◌}
use native.Mathlib.Nat.{add_assoc, add-zero}
use native.Mathlib.Omega.{arith}
use lib.ListN.{get_or, replicate}
use Rattle.numbers.specs.Tests.{All}
use Rattle.plan.specs.declared.ways.Way.{Way}
use Rattle.plan.specs.declared.read.Bays.{Bays}
use Rattle.tables.specs.Width.{record_width}
use Rattle.tables.specs.Places.{Place, records_of, line_first_in}
use Rattle.supports.specs.Governing.{support_width, five_from, low_end_of, high_end_of, governs, support_on, spans_of, support_count, support_place, support_in, support_at}
use Rattle.supports.specs.Meaning.{Adjoins, span_record}
use Rattle.supports.proofs.Faces.{at_start, at_end, between, by_stand}
use Rattle.supports.proofs.Supports.{support_inside, spans_below}

-- record r reads the same in both tables
abbrev pub SameRecord : List ℕ → List ℕ → ℕ → Type 0
SameRecord t t' r = All record_width (λ n. get_or t (r * record_width + n) 0 ≡ get_or t' (r * record_width + n) 0)

module _ (t t' : List ℕ) where
  -- and so does a section of it
  same_five : (r at : ℕ) → at + 5 ≤ record_width → SameRecord t t' r → five_from t (r * record_width + at) ≡ five_from t' (r * record_width + at)
  same_five r at h q =
      rw (rw add-zero at (number 0 (omega arith)), number 1 (omega arith), number 2 (omega arith), number 3 (omega arith), number 4 (omega arith))
    where
      number : (n : ℕ) → n < 5 → get_or t (r * record_width + at + n) 0 ≡ get_or t' (r * record_width + at + n) 0
      number n l = rw (add_assoc (r * record_width) at n) (q (at + n) (omega arith))

  pub same_on : (first n s : ℕ) → 1 ≤ n → s ≤ n → ((m : ℕ) → m < n → Adjoins m s → SameRecord t t' (first + m))
      → support_on t first n s ≡ support_on t' first n s
  same_on first n s some h q =
      by_stand s n
      (λ z. sym (at_start t first n s z refl) ∙ low z ∙ at_start t' first n s z refl)
      (λ z e. sym (at_end t first n s z e refl) ∙ high z ∙ at_end t' first n s z e refl)
      (λ z e. sym (between t first n s z e refl refl refl) ∙ inner z e ∙ between t' first n s z e refl refl refl)
    where
      low : s ≡ 0 → low_end_of t first ≡ low_end_of t' first
      low z = let e : first + 0 ≡ first = omega arith in rw e at (same_five (first + 0) 1 (omega arith) (q 0 (omega arith) (inl (sym z))))

      high : (s ≡ 0 → ⊥) → high_end_of t (first + s - 1) ≡ high_end_of t' (first + s - 1)
      high z =
          let e : first + (s - 1) ≡ first + s - 1 = omega (arith, z) in
          rw e at (same_five (first + (s - 1)) 11 (omega arith) (q (s - 1) (omega (arith, z)) (inr (omega (arith, z)))))

      above : (s ≡ 0 → ⊥) → (s ≡ n → ⊥) → low_end_of t (first + s) ≡ low_end_of t' (first + s)
      above z e = same_five (first + s) 1 (omega arith) (q s (omega (arith, e)) (inl refl))

      inner : (s ≡ 0 → ⊥) → (s ≡ n → ⊥) → governs (high_end_of t (first + s - 1)) (low_end_of t (first + s))
          ≡ governs (high_end_of t' (first + s - 1)) (low_end_of t' (first + s))
      inner z e = ap (λ hi. governs hi (low_end_of t (first + s))) (high z) ∙ ap (λ lo. governs (high_end_of t' (first + s - 1)) lo) (above z e)

  pub same_support : (b : Bays) (p : Place) → 1 ≤ spans_of b p.way → p.span ≤ spans_of b p.way
      → ((s : ℕ) → s < spans_of b p.way → Adjoins s p.span → SameRecord t t' (span_record b p s)) → support_in b t p ≡ support_in b t' p
  same_support b p some h q = same_on (line_first_in b p.way p.line) (spans_of b p.way) p.span some h q

-- ---- a table of zeros

-- of a table without numbers, each of which reads 0
none_on : (first n s : ℕ) → support_on [] first n s ≡ replicate support_width 0
unfolding support_on
none_on first n s =
    by_stand s n
    (λ z. sym (at_start [] first n s z refl))
    (λ z e. sym (at_end [] first n s z e refl))
    (λ z e. sym (between [] first n s z e refl refl refl))

pub zero_support : (b : Bays) (t : List ℕ) → ((d : Way) → 1 ≤ spans_of b d)
    → ((r : ℕ) → r < records_of b → All record_width (λ n. get_or t (r * record_width + n) 0 ≡ 0))
    → {k : ℕ} → k < support_count b → support_at b t k ≡ replicate support_width 0
zero_support b t some zero {k} h =
    let p = support_place b k in
    let i = support_inside b h in
    same_support t [] b p (some p.way) (omega (arith, i.span))
    (λ s l a n m. zero (span_record b p s) (omega (arith, spans_below b p.way p.line i.line)) n m)
    ∙ none_on _ _ _
