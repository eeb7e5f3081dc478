-- Bytes stored one by one, and a record put in a copy: the copy's front, as long as the floor, is the floor with the record put.
-- Assumes nothing.
use Prim.Native.Nat.{ℕ, ◌+◌, ◌*◌, ◌<◌, ◌≤◌}
use mathlib.Core.List.{List, ◌++◌, append_assoc}
use mathlib.Core.Path.{◌≡◌, sym, ◌∙◌}
use native.Mathlib.Nat.{le_antisymm, zero-add}
use native.Mathlib.Numerals.{add-one}
use native.Mathlib.Omega.{arith}
use lib.ListN.{length, take, drop, get_or, set}
use lib.Seq.{paste, paste-suc, take-length, take_at, take-append-le, drop-append-le}
use Rattle.numbers.specs.Records.{put}
use Rattle.numbers.proofs.Records.{length_put}
use Rattle.changes.specs.Change.{stored}

-- a turn of the loop, and its end
module _ (d : List ℕ) (at : ℕ) (s : List ℕ) (j : ℕ) (l : List ℕ) (e : l ≡ paste d at s j) where
  pub stored_more : at + j < length d → j < length s → set l (at + j) (get_or s j 0) ≡ paste d at s (j + 1)
  stored_more hd hs = rw (e, add-one j) (paste-suc d at s j 0 hd hs)

  pub stored_all : j ≤ length s → length s ≤ j → l ≡ stored d at s
  unfolding stored
  stored_all h k = e ∙ rw (le_antisymm h k)

-- a whole record stored is a record put
pub stored_put : (f : List ℕ) (q : ℕ) (c : List ℕ) → length c ≡ 16 → stored f (q * 16) c ≡ put 16 q c f
unfolding stored put
stored_put f q c full = rw full

-- the floor at the front of the copy z, then the record at its place
front : (z f : List ℕ) → stored z 0 f ≡ f ++ drop (length f) z
unfolding stored
front z f = rw (take-length f, zero-add (length f))

module _ (f : List ℕ) (q : ℕ) (c : List ℕ) (room : q * 16 + 16 ≤ length f) (full : length c ≡ 16) where
  pub length_record : length (put 16 q c f) ≡ length f
  length_record = length_put 16 q c f room (omega arith)

  put_front : (t : List ℕ) → put 16 q c (f ++ t) ≡ put 16 q c f ++ t
  unfolding put
  put_front t =
      rw (take-append-le (q * 16) f t (omega arith), drop-append-le (q * 16 + 16) f t room)
      (sym (append_assoc (take (q * 16) f ++ take 16 c) (drop (q * 16 + 16) f) t))

  pub copied : (z l₁ l₂ : List ℕ) → l₁ ≡ stored z 0 f → l₂ ≡ stored l₁ (q * 16) c → take (length f) l₂ ≡ put 16 q c f
  copied z l₁ l₂ e₁ e₂ =
      rw (e₂, stored_put l₁ q c full, e₁, front z f, put_front (drop (length f) z))
      (take_at (put 16 q c f) (drop (length f) z) (length f) length_record)
