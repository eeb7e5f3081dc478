-- A record put into a list of records, over the width: it reads back, every other number is as it was, the length stays.
-- Assumes nothing.
use Prim.Native.Nat.{ℕ, ◌+◌, ◌*◌, ◌-◌, ◌<◌, ◌≤◌}
use mathlib.Core.List.{List, ◌++◌}
use mathlib.Core.Path.{◌≡◌, ap, ◌∙◌}
use native.Mathlib.Omega.{arith}
use native.Mathlib.Nat.{mul-le-mul_right, suc-mul}
use native.Mathlib.Decide.{dec_lt}
use lib.ListN.{length, get_or, take, drop, get_or-append}
use lib.Seq.{paste, length-paste, length_paste_head, length-take-le, get_or-append-add, get_or-drop, get_or-take}
use Rattle.numbers.specs.Records.{put}

-- ---- n numbers of s pasted into d from `at` on

module _ (d : List ℕ) (at : ℕ) (s : List ℕ) (n : ℕ) (room : at + n ≤ length d) (full : n ≤ length s) where
  head : length (take at d ++ take n s) ≡ at + n
  head = length_paste_head d at s n (omega arith) full

  pub pasted_in : (j : ℕ) → j < n → get_or (paste d at s n) (at + j) 0 ≡ get_or s j 0
  pasted_in j h =
      let e : at + j ≡ length (take at d) + j = omega (arith, length-take-le at d (omega arith)) in
      get_or-append (take at d ++ take n s) (drop (at + n) d) 0 (at + j) (omega (arith, head))
      ∙ ap (λ (i : ℕ). get_or (take at d ++ take n s) i 0) e
      ∙ get_or-append-add (take at d) (take n s) j 0
      ∙ get_or-take n s j 0 h

  pub pasted_below : (i : ℕ) → i < at → get_or (paste d at s n) i 0 ≡ get_or d i 0
  pasted_below i h =
      get_or-append (take at d ++ take n s) (drop (at + n) d) 0 i (omega (arith, head))
      ∙ get_or-append (take at d) (take n s) 0 i (omega (arith, length-take-le at d (omega arith)))
      ∙ get_or-take at d i 0 h

  pub pasted_above : (i : ℕ) → at + n ≤ i → get_or (paste d at s n) i 0 ≡ get_or d i 0
  pasted_above i h =
      let e : i ≡ length (take at d ++ take n s) + (i - (at + n)) = omega (arith, head) in
      let e' : at + n + (i - (at + n)) ≡ i = omega arith in
      ap (λ (j : ℕ). get_or (paste d at s n) j 0) e
      ∙ get_or-append-add (take at d ++ take n s) (drop (at + n) d) (i - (at + n)) 0
      ∙ get_or-drop (at + n) d (i - (at + n)) 0
      ∙ ap (λ (j : ℕ). get_or d j 0) e'

-- the records before k end where k starts
pub next_record : (w : ℕ) {k m : ℕ} → k < m → k * w + w ≤ m * w
next_record w {k} h = rw (← suc-mul k w) (mul-le-mul_right w h)

module _ (w k : ℕ) (v t : List ℕ) (room : k * w + w ≤ length t) (full : w ≤ length v) where
  pub length_put : length (put w k v t) ≡ length t
  unfolding put
  length_put = length-paste t (k * w) v w room full

  -- its own numbers are those of v
  pub put_own : (n : ℕ) → n < w → get_or (put w k v t) (k * w + n) 0 ≡ get_or v n 0
  unfolding put
  put_own = pasted_in t (k * w) v w room full

  -- those of every other record are as they were
  pub put_other : (q n : ℕ) → (q ≡ k → ⊥) → n < w → get_or (put w k v t) (q * w + n) 0 ≡ get_or t (q * w + n) 0
  unfolding put
  put_other q n ne h =
      elim (dec_lt q k) [
        | yes l ↦ pasted_below t (k * w) v w room full (q * w + n) (omega (arith, next_record w l))
        | no l ↦
            let m : k < q = omega (arith, ne) in
            pasted_above t (k * w) v w room full (q * w + n) (omega (arith, next_record w m))
      ]

  -- and so is what lies past all records
  pub put_past : (m i : ℕ) → k < m → m * w ≤ i → get_or (put w k v t) i 0 ≡ get_or t i 0
  unfolding put
  put_past m i h l = pasted_above t (k * w) v w room full i (omega (arith, next_record w h))
