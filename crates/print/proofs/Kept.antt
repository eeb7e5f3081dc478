-- The bytes that are kept of an input stand for it: opening answers them as it answers all of it (stand_in_lem), and prints the same sheet
-- (same_sheet), in whatever pieces it was read (stands_none, stands_more).
-- Assumes nothing.
use Prim.Native.Nat.{ℕ, ◌+◌, ◌-◌, ◌%◌, ◌≤◌, ◌<◌, zero-le}
use mathlib.Core.List.{List, [], ◌++◌}
use mathlib.Core.Path.{◌≡◌, sym, ap, subst, ◌∙◌}
use native.Mathlib.Decide.{dec_lt}
use native.Mathlib.Omega.{arith}
use lib.ListN.{length, take, drop, get_or, length-append, length-drop, get_or-append}
use lib.Seq.{length-take-le, get_or-take, get_or-drop, get_or-append-add, ext_get_or}
use borrow.Author.Tests.{ne_eqb, lt-ltb, le-ltb}
use Rattle.floor.specs.Refusal.{refusal}
use Rattle.answers.specs.declared.Answer.{Answer}
use Rattle.moments.specs.Lent.{Lent}
use Rattle.moments.specs.Opening.{open_refusal, Opened}
use Rattle.print.specs.Input.{stand_in, Stands, ReadOn}
use Rattle.print.specs.Sheet.{sheet_text}
use Rattle.print.proofs.Long.{long_alike, long_refused, opened_long}

short : (n : ℕ) → n < 3584 → stand_in n ≡ n
unfolding stand_in
short n h = rw (lt-ltb n 3584 h)

long : (n : ℕ) → 3584 ≤ n → stand_in n ≡ 3584 + n % 16
unfolding stand_in
long n h = rw (le-ltb n 3584 h)

no_more : (n : ℕ) → stand_in n ≤ n
no_more n =
    elim (dec_lt n 3584) [
      | yes h ↦ rw (short n h) (omega arith)
      | no h ↦ rw (long n (omega (arith, h))) (omega (arith, h))
    ]

reaches : (n k : ℕ) → k < n → k < 3584 → k < stand_in n
reaches n k l h =
    elim (dec_lt n 3584) [
      | yes q ↦ rw (short n q) l
      | no q ↦ rw (long n (omega (arith, q))) (omega (arith, h))
    ]

-- m bytes more
stand_in_more : (n m : ℕ) → stand_in (stand_in n + m) ≡ stand_in (n + m)
stand_in_more n m =
    elim (dec_lt n 3584) [
      | yes h ↦ rw (short n h)
      | no h ↦
          rw (long n (omega (arith, h)), long (3584 + n % 16 + m) (omega arith), long (n + m) (omega (arith, h))) (omega arith)
    ]

-- before the first read
pub stands_none : (b : List ℕ) → Stands [] b 0
unfolding stand_in
stands_none b = record { many = omega arith; there = zero-le; same = λ k h q. absurd (omega (arith, q)) }

-- a read put m bytes behind those that stood for f
module _ {f b b' : List ℕ} {n m : ℕ} (s : Stands f b n) (read : ReadOn b n b' m) where
  abbrev piece : List ℕ
  piece = take m (drop n b')

  piece_size : length piece ≡ m
  piece_size = length-take-le m (drop n b') (simp length-drop (omega (arith, read.within)))

  kept : (k : ℕ) → k < n → get_or b' k 0 ≡ get_or b k 0
  kept k h = sym (get_or-take n b' k 0 h) ∙ ap (λ (l : List ℕ). get_or l k 0) read.before ∙ get_or-take n b k 0 h

  added : (k : ℕ) → k < m → get_or b' (n + k) 0 ≡ get_or piece k 0
  added k h = sym (get_or-drop n b' k 0) ∙ sym (get_or-take m (drop n b') k 0 h)

  there : (k : ℕ) → k < 3584 → k < length (f ++ piece) → get_or b' k 0 ≡ get_or (f ++ piece) k 0
  there k h q =
      elim (dec_lt k (length f)) [
        | yes l ↦ kept k (rw s.many (reaches (length f) k l h)) ∙ s.same k h l ∙ sym (get_or-append f piece 0 k l)
        | no l ↦
            let e : n ≡ length f = s.many ∙ short (length f) (omega (arith, l, h)) in
            let here : n + (k - n) ≡ k = omega (arith, l, e) in
            let past : length f + (k - n) ≡ k = omega (arith, l, e) in
            ap (λ (i : ℕ). get_or b' i 0) (sym here)
            ∙ added (k - n) (omega (arith, l, e, q, piece_size, length-append f piece))
            ∙ sym (get_or-append-add f piece (k - n) 0)
            ∙ ap (λ (i : ℕ). get_or (f ++ piece) i 0) past
      ]

  pub stands_more : Stands (f ++ take m (drop n b')) b' (stand_in (n + m))
  stands_more = record {
    many = rw (length-append f piece, piece_size, s.many) (stand_in_more (length f) m);
    there = omega (arith, no_more (n + m), read.within);
    same = there;
  }

module _ {f b : List ℕ} {n : ℕ} (s : Stands f b n) where
  whole : length f < 3584 → take n b ≡ f
  whole h =
      let e : n ≡ length f = s.many ∙ short (length f) h in
      let l : length (take n b) ≡ length f = length-take-le n b s.there ∙ e in
      ext_get_or 0 (take n b) f l (λ k q. get_or-take n b k 0 (omega (arith, q, l, e)) ∙ s.same k (omega (arith, q, l, h)) (omega (arith, q, l)))

  module _ (h : 3584 ≤ length f) where
    size : length (take n b) ≡ 3584 + length f % 16
    size = length-take-le n b s.there ∙ s.many ∙ long (length f) h

    alike : refusal (take n b) ≡ refusal f
    alike =
        long_alike (take n b) f (λ k q. get_or-take n b k 0 (omega (arith, q, s.many, long (length f) h)) ∙ s.same k (omega arith) (omega (arith, q, h)))
        (omega (arith, size)) (omega (arith, h)) (omega (arith, size))

    same_number : (l : Lent) → open_refusal (take n b) l ≡ open_refusal f l
    same_number l = opened_long (take n b) l (omega (arith, size)) ∙ alike ∙ sym (opened_long f l (omega (arith, h)))

    refused : (l : Lent) → open_refusal f l ≡ 0 → ⊥
    refused l e = long_refused f (omega (arith, h)) (sym (opened_long f l (omega (arith, h))) ∙ e)

    opened : {l l' : Lent} {a : Answer} → Opened (take n b) l a l' → Opened f l a l'
    opened {l} {l'} {a} o = record {
      answer = rw (ne_eqb (open_refusal f l) 0 (refused l)) (rw (same_number l, ne_eqb (open_refusal f l) 0 (refused l)) at o.answer);
      lent = rw (ne_eqb (open_refusal f l) 0 (refused l)) (rw (same_number l, ne_eqb (open_refusal f l) 0 (refused l)) at o.lent);
    }

    sheet : (l : Lent) → sheet_text (take n b) l ≡ sheet_text f l
    unfolding sheet_text
    sheet l = rw (same_number l, ne_eqb (open_refusal f l) 0 (refused l))

  -- THE law: what opening promises of the bytes that are kept, it promises of the whole input
  pub stand_in_lem : {l l' : Lent} {a : Answer} → Opened (take n b) l a l' → Opened f l a l'
  stand_in_lem {l} {l'} {a} o =
      elim (dec_lt (length f) 3584) [
        | yes h ↦ subst (λ (g : List ℕ). Opened g l a l') (whole h) o
        | no h ↦ opened (omega (arith, h)) o
      ]

  pub same_sheet : (l : Lent) → sheet_text (take n b) l ≡ sheet_text f l
  same_sheet l =
      elim (dec_lt (length f) 3584) [
        | yes h ↦ ap (λ (g : List ℕ). sheet_text g l) (whole h)
        | no h ↦ sheet (omega (arith, h)) l
      ]
