-- Each callee's equation in turn, in the range of the line; W and l2 together are its numbers (line_is).
-- Assumes nothing.
use mathlib.Core.Path.{◌≡◌}
use Prim.Native.Nat.{ℕ}
use Rattle.spans.specs.declared.view.LineView.{LineView}
use Rattle.spans.specs.declared.work.LineWork.{LineWork}
use Rattle.spans.specs.Works.{width_of, l2_of, line_work}
use Rattle.spans.proofs.work.line_work.Goals as goal

abbrev of : ℕ → ℕ → ℕ → LineWork
of W l2 alpha = record { width = W; l2 = l2; alpha = alpha }

line_is : (line : LineView) (alpha : ℕ) {W l2 : ℕ} → W ≡ width_of line → l2 ≡ l2_of line → of W l2 alpha ≡ line_work line alpha
unfolding line_work
line_is line alpha e g = cc

pub returns : goal.returns
returns c = line_is _ _ c.frame_width-width.ensures.0 c.transverse_span-l2.ensures.0
