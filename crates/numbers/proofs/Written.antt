-- Records written into a list one after another, over the width: what each number is afterwards, and that runs of records join.
-- A number is found by its record and its place in it, so two such lists are compared record by record.
--     from_none, from_more, from_run      the loop's entry, one turn more, and one run after another (written_more: from record 0 on)
--     written_at, written_past            what is there afterwards
--     same_records, same_written          when two lists, or two writings, are equal
--     in_range, rewritten                 one stretch of a line; and the picked records anew, which is all of them anew
-- Assumes nothing.
use Prim.Native.Nat.{ℕ, zero, suc, ◌+◌, ◌*◌, ◌-◌, ◌/◌, ◌%◌, ◌<◌, ◌≤◌}
use mathlib.Core.Bool.{Bool, true, false, cond, ◌&&◌}
use mathlib.Core.List.{List}
use mathlib.Core.Path.{◌≡◌, refl, sym, ap, ◌∙◌}
use native.Mathlib.Decide.{dec_lt, dec_le}
use native.Mathlib.Nat.{add-zero, zero-add, add-suc, add_assoc, suc-mul, div-add-mod', mod-lt, div-lt_iff_lt-mul}
use native.Mathlib.Numerals.{add-one}
use native.Mathlib.Omega.{arith}
use lib.Dec.{ltb, leb}
use lib.ListN.{length, get_or}
use lib.Seq.{ext_get_or}
use borrow.Author.Tests.{lt-ltb, le-ltb, le-leb, lt-leb}
use Rattle.numbers.specs.Records.{put, written_from, written, every}
use Rattle.numbers.proofs.Records.{next_record, length_put, put_own, put_other, put_past}

-- ---- the loop

module _ (w : ℕ) (s : ℕ → Bool) (g : ℕ → List ℕ) (a : ℕ) where
  pub from_none : (t : List ℕ) → written_from w s g a 0 t ≡ t
  unfolding written_from
  from_none t = refl

  pub from_more : (n : ℕ) (t : List ℕ) → let u = written_from w s g a n t in
      written_from w s g a (n + 1) t ≡ cond (s (a + n)) (put w (a + n) (g (a + n)) u) u
  unfolding written_from
  from_more n t = rw add-one

  -- a run of records after another is one run
  pub from_run : (n m : ℕ) (t : List ℕ) → written_from w s g (a + n) m (written_from w s g a n t) ≡ written_from w s g a (n + m) t
  unfolding written_from
  from_run n zero t = rw add-zero
  from_run n (suc m) t = rw (add-suc n m, ← from_run n m t, add_assoc)

  -- records that s leaves do not count
  pub from_left : (n : ℕ) (t : List ℕ) → ((m : ℕ) → m < n → s (a + m) ≡ false) → written_from w s g a n t ≡ t
  unfolding written_from
  from_left zero t h = refl
  from_left (suc n) t h = rw (h n (omega arith)) (from_left n t (λ m l. h m (omega arith)))

-- from the first record on
pub written_more : (w : ℕ) (s : ℕ → Bool) (g : ℕ → List ℕ) (n : ℕ) (t : List ℕ) → let u = written w s g n t in
    written w s g (n + 1) t ≡ cond (s n) (put w n (g n) u) u
unfolding written_from
written_more w s g n t = rw (add-one, zero-add)

-- two tests that agree, and two lists of records that agree, on the records written
pub same_written : (w : ℕ) (s s' : ℕ → Bool) (g g' : ℕ → List ℕ) (a n : ℕ) (t : List ℕ)
    → ((k : ℕ) → a ≤ k → k < a + n → s k ≡ s' k) → ((k : ℕ) → a ≤ k → k < a + n → g k ≡ g' k)
    → written_from w s g a n t ≡ written_from w s' g' a n t
unfolding written_from
same_written w s s' g g' a zero t p q = refl
same_written w s s' g g' a (suc n) t p q =
    rw (
      p (a + n) (omega arith) (omega arith),
      q (a + n) (omega arith) (omega arith),
      same_written w s s' g g' a n t (λ k l h. p k l (omega arith)) (λ k l h. q k l (omega arith)),
    )

-- no number is in a stretch that ends before it starts
empty : (low high m : ℕ) → high ≤ low → (leb low m && ltb m high) ≡ false
empty low high m h =
    elim (dec_lt m low) [
      | yes l ↦ rw (lt-leb low m l)
      | no l ↦ rw (le-ltb m high (omega arith), le-leb low m (omega arith))
    ]

-- where s picks of the n records from a on those from `low` on, below `high`, it writes every record of that stretch
pub in_range : (w : ℕ) (s : ℕ → Bool) (g : ℕ → List ℕ) (a n low high : ℕ) (t : List ℕ) → high ≤ n
    → ((m : ℕ) → m < n → s (a + m) ≡ (leb low m && ltb m high))
    → written_from w s g a n t ≡ written_from w every g (a + low) (high - low) t
in_range w s g a n low high t top test =
    elim (dec_le low high) [
      | yes h ↦
          let e : low + (high - low) + (n - high) ≡ n = omega arith in
          let e' : a + (low + (high - low)) ≡ a + high = omega arith in
          ap (λ (m : ℕ). written_from w s g a m t) (sym e)
          ∙ sym (from_run w s g a (low + (high - low)) (n - high) t)
          ∙ from_left w s g (a + (low + (high - low))) (n - high) _ (λ m l.
          ap (λ (k : ℕ). s k) (omega arith) ∙ test (high + m) (omega arith) ∙ rw (le-ltb (high + m) high (omega arith), le-leb low (high + m) (omega arith)))
          ∙ sym (from_run w s g a low (high - low) t)
          ∙ ap (λ (u : List ℕ). written_from w s g (a + low) (high - low) u)
          (from_left w s g a low t (λ m l. test m (omega arith) ∙ rw (lt-leb low m l)))
          ∙ same_written w s every g g (a + low) (high - low) t
          (λ k l r.
          let q : a + (k - a) ≡ k = omega arith in
          ap (λ (i : ℕ). s i) (sym q) ∙ test (k - a) (omega arith) ∙ rw (le-leb low (k - a) (omega arith), lt-ltb (k - a) high (omega arith)))
          (λ k l r. refl)
      | no h ↦
          let e : high - low ≡ 0 = omega arith in
          from_left w s g a n t (λ m l. test m l ∙ empty low high m (omega arith))
          ∙ sym (from_none w every g (a + low) t) ∙ ap (λ (m : ℕ). written_from w every g (a + low) m t) (sym e)
    ]

-- ---- what is there afterwards

module _ (w : ℕ) (s : ℕ → Bool) (g : ℕ → List ℕ) (full : (k : ℕ) → w ≤ length (g k)) (a : ℕ) (t : List ℕ) where
  length_turn : (c : ℕ) (b : Bool) (u : List ℕ) → c * w + w ≤ length u → length (cond b (put w c (g c) u) u) ≡ length u
  length_turn c true u h = length_put w c (g c) u h (full c)
  length_turn c false u h = refl

  pub length_from : (n : ℕ) → (a + n) * w ≤ length t → length (written_from w s g a n t) ≡ length t
  unfolding written_from
  length_from zero h = refl
  length_from (suc n) h =
      let step : (a + n) * w + w ≤ (a + suc n) * w = next_record w (omega arith) in
      let e : length (written_from w s g a n t) ≡ length t = length_from n (omega arith) in
      length_turn (a + n) (s (a + n)) (written_from w s g a n t) (omega arith) ∙ e

  past_turn : (c i : ℕ) (b : Bool) (u : List ℕ) → c * w + w ≤ length u → suc c * w ≤ i → get_or (cond b (put w c (g c) u) u) i 0 ≡ get_or u i 0
  past_turn c i true u h p = put_past w c (g c) u h (full c) (suc c) i (omega arith) p
  past_turn c i false u h p = refl

  -- past the records: as it was
  pub from_past : (n : ℕ) → (a + n) * w ≤ length t → (i : ℕ) → (a + n) * w ≤ i → get_or (written_from w s g a n t) i 0 ≡ get_or t i 0
  unfolding written_from
  from_past zero h i p = refl
  from_past (suc n) h i p =
      let step : (a + n) * w + w ≤ (a + suc n) * w = next_record w (omega arith) in
      let q : suc (a + n) * w ≤ i = rw (suc-mul (a + n) w) (omega arith) in
      past_turn (a + n) i (s (a + n)) (written_from w s g a n t) (omega (arith, length_from n (omega arith))) q
      ∙ from_past n (omega arith) i (omega arith)

  own_turn : (c m : ℕ) (b : Bool) (u : List ℕ) → m < w → c * w + w ≤ length u → get_or u (c * w + m) 0 ≡ get_or t (c * w + m) 0
      → get_or (cond b (put w c (g c) u) u) (c * w + m) 0 ≡ cond b (get_or (g c) m 0) (get_or t (c * w + m) 0)
  own_turn c m true u hm h e = put_own w c (g c) u h (full c) m hm
  own_turn c m false u hm h e = e

  other_turn : (c k m : ℕ) (b : Bool) (u : List ℕ) → (k ≡ c → ⊥) → m < w → c * w + w ≤ length u
      → get_or (cond b (put w c (g c) u) u) (k * w + m) 0 ≡ get_or u (k * w + m) 0
  other_turn c k m true u ne hm h = put_other w c (g c) u h (full c) k m ne hm
  other_turn c k m false u ne hm h = refl

  -- number m of record k of the run: its new value where s picks k, else as it was
  pub from_at : (n : ℕ) → (a + n) * w ≤ length t → (k m : ℕ) → a ≤ k → k < a + n → m < w
      → get_or (written_from w s g a n t) (k * w + m) 0 ≡ cond (s k) (get_or (g k) m 0) (get_or t (k * w + m) 0)
  unfolding written_from
  from_at zero h k m hk lk hm = absurd (omega arith)
  from_at (suc n) h k m hk lk hm =
      let step : (a + n) * w + w ≤ (a + suc n) * w = next_record w (omega arith) in
      let room : (a + n) * w + w ≤ length (written_from w s g a n t) = omega (arith, length_from n (omega arith)) in
      elim (dec_lt k (a + n)) [
        | yes l ↦
            other_turn (a + n) k m (s (a + n)) (written_from w s g a n t) (λ q. omega arith) hm room
            ∙ from_at n (omega arith) k m hk l hm
        | no l ↦
            let q : k ≡ a + n = omega arith in
            rw q (own_turn (a + n) m (s (a + n)) (written_from w s g a n t) hm room (from_past n (omega arith) ((a + n) * w + m) (omega arith)))
      ]

module _ (w : ℕ) (s : ℕ → Bool) (g : ℕ → List ℕ) (full : (k : ℕ) → w ≤ length (g k)) (c : ℕ) (t : List ℕ) (room : c * w ≤ length t) where
  room_from : (0 + c) * w ≤ length t
  room_from = omega arith

  pub length_written : length (written w s g c t) ≡ length t
  length_written = length_from w s g full 0 t c room_from

  pub written_past : (i : ℕ) → c * w ≤ i → get_or (written w s g c t) i 0 ≡ get_or t i 0
  written_past i p = from_past w s g full 0 t c room_from i (omega arith)

  pub written_at : (k n : ℕ) → k < c → n < w → get_or (written w s g c t) (k * w + n) 0 ≡ cond (s k) (get_or (g k) n 0) (get_or t (k * w + n) 0)
  written_at k n hk hn = from_at w s g full 0 t c room_from k n (omega arith) (omega arith) hn

-- ---- two lists

-- of one length, with the same records below c and the same numbers past them
pub same_records : (w c : ℕ) (t u : List ℕ) → 0 < w → length t ≡ length u
    → ((k n : ℕ) → k < c → n < w → get_or t (k * w + n) 0 ≡ get_or u (k * w + n) 0)
    → ((i : ℕ) → c * w ≤ i → get_or t i 0 ≡ get_or u i 0) → t ≡ u
same_records w c t u pos e inside past =
    ext_get_or 0 t u e
    (λ i h.
    elim (dec_lt i (c * w)) [
      | yes l ↦
          let q : i / w * w + i % w ≡ i = div-add-mod' i w in
          ap (λ (j : ℕ). get_or t j 0) (sym q) ∙ inside (i / w) (i % w) ((div-lt_iff_lt-mul pos).1 l) (mod-lt i pos) ∙ ap (λ (j : ℕ). get_or u j 0) q
      | no l ↦ past i (omega arith)
    ])

module _ (w : ℕ) (s : ℕ → Bool) (g g' : ℕ → List ℕ) (full : (k : ℕ) → w ≤ length (g k)) (full' : (k : ℕ) → w ≤ length (g' k)) where
  choose : (b : Bool) (x y z : ℕ) → (b ≡ false → z ≡ x) → y ≡ z → cond b x y ≡ x
  choose true x y z h e = refl
  choose false x y z h e = e ∙ h refl

  -- where every record that s leaves is the same in g and g', the records that s picks written anew are all records written anew
  pub rewritten : (c : ℕ) (t : List ℕ) → 0 < w → c * w ≤ length t → ((k : ℕ) → k < c → s k ≡ false → g k ≡ g' k)
      → written w s g' c (written w every g c t) ≡ written w every g' c t
  rewritten c t pos room same =
      let l : length (written w every g c t) ≡ length t = length_written w every g full c t room in
      let room' : c * w ≤ length (written w every g c t) = omega arith in
      same_records w c (written w s g' c (written w every g c t)) (written w every g' c t) pos
      (length_written w s g' full' c (written w every g c t) room' ∙ l ∙ sym (length_written w every g' full' c t room))
      (λ k n hk hn.
      written_at w s g' full' c (written w every g c t) room' k n hk hn
      ∙ choose (s k) (get_or (g' k) n 0) (get_or (written w every g c t) (k * w + n) 0) (get_or (g k) n 0)
      (λ e. ap (λ (r : List ℕ). get_or r n 0) (same k hk e))
      (written_at w every g full c t room k n hk hn)
      ∙ sym (written_at w every g' full' c t room k n hk hn))
      (λ i h. written_past w s g' full' c (written w every g c t) room' i h ∙ written_past w every g full c t room i h ∙ sym (written_past w every g' full' c t room i h))
