-- Two records with the same bytes have the same fields, wherever they stand: so what a changed floor reads is asked of bytes once.
-- Assumes nothing.
use Prim.Native.Nat.{ℕ, ◌+◌, ◌*◌, ◌<◌, ◌≤◌}
use mathlib.Core.List.{List}
use mathlib.Core.Path.{◌≡◌}
use native.Mathlib.Omega.{arith}
use lib.ListN.{get_or}
use Rattle.plan.specs.Fields.{le16, le32, kind_at, index_at, part_at}

-- record q of g has the bytes of record q' of h
pub record Alike (g : List ℕ) (q : ℕ) (h : List ℕ) (q' : ℕ) : Type 0 where
  pub bytes : (n : ℕ) → n < 16 → get_or g (q * 16 + n) 0 ≡ get_or h (q' * 16 + n) 0

module _ {g : List ℕ} {q : ℕ} {h : List ℕ} {q' : ℕ} (same : Alike g q h q') where
  byte : (n i i' : ℕ) → n < 16 → i ≡ q * 16 + n → i' ≡ q' * 16 + n → get_or g i 0 ≡ get_or h i' 0
  byte n i i' l e e' = rw (e, e') (same.bytes n l)

  two : (o i i' : ℕ) → o + 1 < 16 → i ≡ q * 16 + o → i' ≡ q' * 16 + o → le16 g i ≡ le16 h i'
  unfolding le16
  two o i i' l e e' = rw (byte o i i' (omega arith) e e', byte (o + 1) (i + 1) (i' + 1) l (omega arith) (omega arith))

  pub kind_alike : kind_at g q ≡ kind_at h q'
  kind_alike = two 0 _ _ (omega arith) (omega arith) (omega arith)

  pub index_alike : index_at g q ≡ index_at h q'
  index_alike = two 2 _ _ (omega arith) (omega arith) (omega arith)

  pub part_alike : (part : ℕ) → part ≤ 3 → part_at g q part ≡ part_at h q' part
  unfolding le32
  part_alike part l =
      let i = q * 16 + 4 * part in
      let i' = q' * 16 + 4 * part in
      rw (
        byte (4 * part) i i' (omega arith) (omega arith) (omega arith),
        byte (4 * part + 1) (i + 1) (i' + 1) (omega arith) (omega arith) (omega arith),
        byte (4 * part + 2) (i + 2) (i' + 2) (omega arith) (omega arith) (omega arith),
        byte (4 * part + 3) (i + 3) (i' + 3) (omega arith) (omega arith) (omega arith),
      )
