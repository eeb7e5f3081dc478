-- The digits are io's, copied into place; they are n's decimal by decimal_fewest, and at most ten.
-- Assumes nothing.
use mathlib.Core.Path.{◌≡◌, sym, ap, ◌∙◌}
use mathlib.Core.List.{List, [], append-nil}
use Prim.Native.Nat.{ℕ, ◌+◌, ◌-◌, ◌≤◌}
use native.Mathlib.Omega.{arith}
use borrow.Rule.Slice.PartMut.{put_mid, same_len_mid}
use lib.ListN.{length, take, drop, take-append-drop}
use lib.Seq.{take-length}
use Rattle.std.proofs.lemmas.List.{drop_all}
use Rattle.sheets.specs.Text.{decimal}
use Rattle.sheets.specs.Wrote.{Wrote}
use Rattle.sheets.proofs.Decimals.{at_most, decimal_fewest}
use Rattle.sheets.proofs.Writing.{wrote_copy}
use Rattle.sheets.proofs.number.Goals as goal
use Rattle.sheets.proofs.number.Goals.{After-decimal-k}

few : (c : After-decimal-k) → c.decimal-k.result ≤ 10
few c = at_most 10 c.args.n c.decimal-k.result (omega arith) (omega arith) c.decimal-k.ensures.len

-- a text that fills its part of the buffer
filled : (old src text : List ℕ) (at k m : ℕ) → at ≤ length old → k ≡ length src → src ≡ text → length src ≡ length (take m (drop at old)) →
    Wrote old at text (put_mid at m old src) (at + k)
filled old src text at k m h e same size =
    let none : drop (length src) (take m (drop at old)) ≡ [] = drop_all (length src) (take m (drop at old)) (omega (arith, size)) in
    wrote_copy old src text (take m (drop at old)) src (drop m (drop at old)) at k h e same (omega (arith, size))
    (take-append-drop m (drop at old)) (simp (take-length, none, append-nil)) (same_len_mid at m old src size)

pub slice_bounds-copy_from_slice-end : goal.slice_bounds-copy_from_slice-end
slice_bounds-copy_from_slice-end c = omega (arith, few (goal.at.slice_bounds-copy_from_slice-end c).After-decimal-k)

pub returns : goal.returns
returns c =
    let digits = c.decimal-k in
    let copied = c.copy_from_slice in (
      filled c.args.out.now copied.new.self (decimal c.args.n) c.args.at digits.result (c.args.at + digits.result - c.args.at) (omega arith)
          (digits.ensures.in_bounds.1 ∙ ap length (sym copied.ensures.after))
          (copied.ensures.after ∙ digits.ensures.digits ∙ decimal_fewest c.args.n digits.result (omega arith) digits.ensures.len)
          copied.ensures.len,
      omega (arith, few (goal.at.returns c).After-decimal-k),
    )
