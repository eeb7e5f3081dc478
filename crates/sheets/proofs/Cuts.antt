-- A piece has some of the records that are left, no more than that, and fits; what is sent of a buffer is the text written there; of what was
-- not taken whole nothing is promised.
-- Assumes nothing.
use Prim.Native.Nat.{ℕ, ◌*◌, ◌/◌, ◌≤◌, min, zero-le}
use mathlib.Core.Bool.{false, false≢true}
use mathlib.Core.List.{List}
use mathlib.Core.Path.{◌≡◌, sym, subst, ◌∙◌}
use native.Mathlib.Decide.{dec_le}
use native.Mathlib.Nat.{div-mul-le_self, le-div_iff_mul-le}
use native.Mathlib.Omega.{arith}
use borrow.Author.Tests.{lt-ltb, le-ltb}
use lib.ListN.{take}
use Rattle.sheets.specs.Wrote.{Wrote}
use Rattle.sheets.specs.Pieces.{piece, Sent, Printed}
use Rattle.sheets.proofs.Writing.{wrote_there}

-- what holds of either number that a piece can have
by_piece : (P : ℕ → Type 0) (w left : ℕ) → (left ≤ 5957 / w → P left) → (5957 / w ≤ left → P (5957 / w)) → P (piece w left)
unfolding piece
by_piece P w left few many =
    elim (dec_le (5957 / w) left) [
      | yes h ↦ rw (le-ltb left (5957 / w) h) (many h)
      | no h ↦ rw (lt-ltb left (5957 / w) (omega (arith, h))) (few (omega (arith, h)))
    ]

-- it is the lesser of the two
pub piece_is : (w left : ℕ) → min left (5957 / w) ≡ piece w left
piece_is w left = by_piece (λ m. min left (5957 / w) ≡ m) w left (λ h. omega arith) (λ h. omega arith)

module _ (w left n : ℕ) (e : n ≡ piece w left) (some : 1 ≤ w) where
  pub piece_some : w ≤ 5957 → 1 ≤ left → 1 ≤ n
  piece_some fits more = rw e (by_piece (λ m. 1 ≤ m) w left (λ _. more) (λ _. (le-div_iff_mul-le some).1 (omega arith)))

  pub piece_within : n ≤ left
  piece_within = rw e (by_piece (λ m. m ≤ left) w left (λ _. omega arith) (λ h. h))

  pub piece_fits : n * w ≤ 5957
  piece_fits = rw e (by_piece (λ m. m * w ≤ 5957) w left (λ h. (le-div_iff_mul-le some).0 h) (λ _. div-mul-le_self 5957 w))

-- what was written at the start of a buffer, sent from there
pub sent_there : {old text new : List ℕ} {r : ℕ} {s : Sent} → Wrote old 0 text new r → Printed (take r new) s → Printed text s
sent_there {s = s} w = subst (λ (l : List ℕ). Printed l s) (wrote_there zero-le w)

pub cut_off : {text : List ℕ} {s : Sent} → s.whole ≡ false → Printed text s
cut_off e = record { all = λ t. absurd (false≢true (sym e ∙ t)) }
