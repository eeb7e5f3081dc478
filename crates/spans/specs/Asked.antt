-- What leaves ask of their callers. A reader who only wants to know what the program does need not read this file.
-- The numbers of a view are in range, so that every formula can be worked out: the ranges of an accepted floor, and what a clear verdict adds
-- about its proportions. `workable` (proofs/Clear) shows it of every view of a clear floor.
-- Assumes nothing.
use Rattle.std.specs.Prelude.{ℕ, ◌*◌, ◌≤◌, ◌<◌, List, ◌≡◌}
use Rattle.plan.specs.declared.ways.Way.{Way}
use Rattle.plan.specs.declared.read.Bays.{Bays}
use Rattle.plan.specs.Plan.{bays, last_line}
use Rattle.plan.specs.Asked.{Sized}
use Rattle.floor.specs.Refusal.{refusal}
use Rattle.lines.specs.declared.slab.Slab.{Slab}
use Rattle.lines.specs.Slabs.{slab_of}
use Rattle.stiffness.specs.Asked.{Beam, Frame, Line}
use Rattle.strips.specs.Asked.{SpanSizes}
use Rattle.limits.specs.Limits.{verdict}
use Rattle.spans.specs.declared.view.LineView.{LineView}
use Rattle.spans.specs.declared.view.EndView.{EndView}
use Rattle.spans.specs.declared.view.View.{View}
use Rattle.spans.specs.declared.work.LineWork.{LineWork}
use Rattle.spans.specs.declared.work.SpanWork.{SpanWork}
use Rattle.spans.specs.Works.{l2_of, alpha_of, line_work}

-- the bays of f, and a span's number in its line
pub record SizedSpan (f : List ℕ) (b : Bays) (s : ℕ) : Type 0 where
  pub sized : Sized f b
  pub few : s < 12

-- what all spans of f share, and a span's number in its line
pub record SlabbedSpan (f : List ℕ) (slab : Slab) (s : ℕ) : Type 0 where
  pub shared : slab ≡ slab_of f
  pub few : s < 12

-- the spans on either side of a line, and the column across it; with its beam
abbrev pub Sides : LineView → Type 0
Sides line = Line line.outer line.below line.above line.across

pub record WorkableLine (line : LineView) (t : ℕ) : Type 0 where
  pub spans : Sides line
  pub beam : Beam line.width line.depth t

-- the beam across an end
abbrev pub WorkableEnd : EndView → ℕ → Type 0
WorkableEnd e t = Beam e.width e.depth t

pub record Workable (v : View) : Type 0 where
  pub line : WorkableLine v.line v.slab.t
  pub dead : v.slab.dead ≤ 30000
  pub live : v.slab.live ≤ 50000
  pub least : 1000 ≤ v.l1
  pub spanned : SpanSizes v.l1 v.line.along
  pub wide : l2_of v.line ≤ 2 * v.l1
  pub long : v.l1 ≤ 2 * l2_of v.line
  pub low : WorkableEnd v.low v.slab.t
  pub high : WorkableEnd v.high v.slab.t

-- with its line's numbers worked out
pub record WorkableSpan (v : View) (w : LineWork) : Type 0 where
  pub view : Workable v
  pub line : w ≡ line_work v.line (alpha_of v.line v.slab.t)

-- the ranges of a span's numbers
pub record Worked (w : SpanWork) : Type 0 where
  pub moment : w.moment ≤ 25056000
  pub stiffness : w.a ≤ 10000
  pub ratio_least : 5000 ≤ w.r
  pub ratio_most : w.r ≤ 20000
  pub strip : w.strip ≤ w.width
  pub width : Frame w.width
  pub across_least : 1000 ≤ w.l2
  pub across_most : w.l2 ≤ 12000
  pub slab_least : 90 ≤ w.t
  pub slab_most : w.t ≤ 500

-- with the beam across an end
pub record WorkedEnd (w : SpanWork) (e : EndView) : Type 0 where
  pub span : Worked w
  pub beam : WorkableEnd e w.t

-- with a section's p, at an end or between
pub record AtEnd (w : SpanWork) (e : EndView) (percent : ℕ) : Type 0 where
  pub span : Worked w
  pub beam : WorkableEnd e w.t
  pub most : percent ≤ 75

pub record AtSection (w : SpanWork) (percent : ℕ) : Type 0 where
  pub span : Worked w
  pub most : percent ≤ 75

-- a span of line l along d of a clear floor
pub record ClearSpan (f : List ℕ) (d : Way) (l s : ℕ) : Type 0 where
  pub accepted : refusal f ≡ 0
  pub clear : verdict f ≡ 0
  pub line : l ≤ last_line f d
  pub span : s < bays f d
