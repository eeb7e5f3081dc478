-- "Moments", of a span's view: the numbers of its line, its static moment and the ratios.
-- Assumes nothing.
use Rattle.std.specs.Prelude.{ℕ}
use Rattle.stiffness.specs.Lines.{frame_width, alpha, transverse_span, column_strip_width}
use Rattle.strips.specs.Moments.{clear_length, static_moment}
use Rattle.strips.specs.Ratios.{stiffness_ratio, span_ratio}
use Rattle.spans.specs.declared.view.LineView.{LineView}
use Rattle.spans.specs.declared.view.View.{View}
use Rattle.spans.specs.declared.work.LineWork.{LineWork}
use Rattle.spans.specs.declared.work.SpanWork.{SpanWork}

-- W
abbrev pub width_of : LineView → ℕ
width_of line = frame_width line.outer line.below line.above line.across

-- l2
abbrev pub l2_of : LineView → ℕ
l2_of line = transverse_span line.outer line.below line.above

-- α
abbrev pub alpha_of : LineView → ℕ → ℕ
alpha_of line t = alpha line.outer line.width line.depth (width_of line) t

-- with its α
unfoldable pub line_work : LineView → ℕ → LineWork
line_work line alpha = record { width = width_of line; l2 = l2_of line; alpha = alpha }

-- Mo
abbrev pub moment_of : View → ℕ
moment_of v =
    static_moment v.slab.dead v.slab.live (width_of v.line) (clear_length v.l1 v.line.along)

-- A and R
abbrev pub stiffness_of : View → ℕ
stiffness_of v = stiffness_ratio (alpha_of v.line v.slab.t) (l2_of v.line) v.l1

abbrev pub ratio_of : View → ℕ
ratio_of v = span_ratio (l2_of v.line) v.l1

-- wc
abbrev pub strip_of : View → ℕ
strip_of v = column_strip_width v.line.outer v.l1 v.line.below v.line.above v.line.across

unfoldable pub span_work : View → SpanWork
span_work v =
    record {
      moment = moment_of v;
      a = stiffness_of v;
      r = ratio_of v;
      strip = strip_of v;
      width = width_of v.line;
      l2 = l2_of v.line;
      t = v.slab.t;
    }
