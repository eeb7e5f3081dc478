-- The widths across a line: their ranges, and that no halving or quartering loses anything, since spans are multiples of 20 and columns of 10.
--     past_in, one_span    what a line's record says, by its two cases: an outer line, with a span on one side alone, and one inside
--     ..-in                a width's range
--     ..-exact             a width times its divisor is what was divided
--     strip_most           the column strip is no wider than the frame, whatever the spans are
-- Assumes nothing.
use Prim.Native.Nat.{ℕ, ◌+◌, ◌*◌, ◌%◌, ◌≤◌, min}
use mathlib.Core.Bool.{Bool, true, false}
use mathlib.Core.Logic.{⊎_elim}
use mathlib.Core.Path.{◌≡◌}
use native.Mathlib.Omega.{arith}
use Rattle.numbers.proofs.Rounded.{exact}
use Rattle.stiffness.specs.Asked.{Span, Column, Beside, Line, Frame}
use Rattle.stiffness.specs.Lines.{past, frame_width, transverse_span, column_strip_width}

pub past_in : {column : ℕ} (outer : Bool) → Column column → (past outer column ≤ 1500) × (past outer column % 10 ≡ 0)
past_in true c = omega arith
past_in false c = omega arith

one_span : {below above : ℕ} → Beside true below above → (1000 ≤ below + above) × (below + above ≤ 12000)
one_span s = ⊎_elim (λ t. omega arith) (λ t. omega arith) s.there

module _ {below above : ℕ} where
  pub transverse_in : (outer : Bool) → Beside outer below above
      → (1000 ≤ transverse_span outer below above) × (transverse_span outer below above ≤ 12000)
  unfolding transverse_span
  transverse_in true s = one_span s
  transverse_in false s = let two = s.there in omega arith

  -- "the whole panel span" of an outer line is not divided
  pub transverse_exact : Beside false below above → transverse_span false below above * 2 ≡ below + above
  unfolding transverse_span
  transverse_exact s = exact _ 2 (omega arith)

module _ {below above column : ℕ} where
  pub frame_in : (outer : Bool) → Line outer below above column → Frame (frame_width outer below above column)
  unfolding frame_width
  frame_in true l = let one = one_span l.spans in record { least = omega arith; most = omega arith }
  frame_in false l = let two = l.spans.there in record { least = omega arith; most = omega arith }

  pub frame_exact : (outer : Bool) → Line outer below above column
      → frame_width outer below above column * 2 ≡ below + above + past outer column
  unfolding frame_width
  frame_exact outer l = exact _ 2 (omega (arith, past_in outer l.across))

  pub strip_exact : (outer : Bool) {l1 : ℕ} → Line outer below above column → Span l1
      → column_strip_width outer l1 below above column * 4 ≡ min l1 below + min l1 above + 2 * past outer column
  unfolding column_strip_width
  strip_exact outer {l1} l s =
      let beyond = exact (past outer column) 2 (omega (arith, past_in outer l.across)) in
      omega (arith, exact (min l1 below) 4 (omega arith), exact (min l1 above) 4 (omega arith))

pub strip_most : (outer : Bool) (l1 below above column : ℕ) → column_strip_width outer l1 below above column ≤ frame_width outer below above column
unfolding column_strip_width frame_width
strip_most outer l1 below above column = omega arith
