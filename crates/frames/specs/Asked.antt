-- What leaves ask of their callers. A reader who only wants to know what the program does need not read this file.
-- Assumes nothing.
use Rattle.std.specs.Prelude.{ℕ, ◌+◌, ◌*◌, ◌≤◌, ◌<◌, List, ◌≡◌, get_or}
use Rattle.plan.specs.declared.ways.Way.{Way}
use Rattle.plan.specs.Plan.{bays, many, last_line}
use Rattle.floor.specs.Refusal.{refusal}
use Rattle.lines.specs.declared.slab.Slab.{Slab}
use Rattle.lines.specs.Slabs.{slab_of}
use Rattle.lines.specs.Rows.{Alphas, AllAlphas}
use Rattle.limits.specs.Limits.{verdict}
use Rattle.spans.specs.declared.view.LineView.{LineView}
use Rattle.spans.specs.declared.work.LineWork.{LineWork}
use Rattle.spans.specs.Views.{line_view}
use Rattle.spans.specs.Works.{alpha_of, line_work}
use Rattle.tables.specs.declared.named.Spans.{Spans}
use Rattle.tables.specs.Places.{record_count, place_of}
use Rattle.tables.specs.Width.{record_width}
use Rattle.tables.specs.Asked.{Room}
use Rattle.frames.specs.Table.{record_at}

-- a floor whose moments stand, what all its spans share, and a table that has room for them
pub record Standing (f t : List ℕ) (slab : Slab) : Type 0 where
  pub accepted : refusal f ≡ 0
  pub clear : verdict f ≡ 0
  pub shared : slab ≡ slab_of f
  pub table : Room (record_count f) t

-- record k of such a floor, and a table that has it
pub record AtRecord (f : List ℕ) (slab : Slab) (t : List ℕ) (k : ℕ) : Type 0 where
  pub standing : Standing f t slab
  pub below : k < record_count f
  pub holds : (n : ℕ) → n < record_width → get_or t (k * record_width + n) 0 ≡ get_or (record_at f k) n 0

-- the floor has a record of this kind and index
pub record Listed (f : List ℕ) (kind index : ℕ) : Type 0 where
  pub there : index < many f kind

-- with α of all lines of the floor
pub record InTable (f t : List ℕ) (slab : Slab) (a : List (List ℕ)) (kind index : ℕ) : Type 0 where
  pub standing : Standing f t slab
  pub alphas : AllAlphas f a
  pub listed : Listed f kind index

-- or of the lines along d
pub record InFrames (f t : List ℕ) (slab : Slab) (a : List ℕ) (kind index : ℕ) (d : Way) : Type 0 where
  pub standing : Standing f t slab
  pub alphas : Alphas f d 0 (last_line f d) a
  pub listed : Listed f kind index

-- and one of these lines
pub record AtLine (f t : List ℕ) (slab : Slab) (a : List ℕ) (kind index : ℕ) (d : Way) (l : ℕ) : Type 0 where
  pub frames : InFrames f t slab a kind index d
  pub line : l ≤ last_line f d

-- some spans of a line
pub record AtSpans (f t : List ℕ) (slab : Slab) (a : List ℕ) (d : Way) (l : ℕ) (spans : Spans) : Type 0 where
  pub standing : Standing f t slab
  pub alphas : Alphas f d 0 (last_line f d) a
  pub line : l ≤ last_line f d
  pub order : spans.from ≤ spans.to
  pub most : spans.to ≤ bays f d

-- record k, which is of span s along d, with the view and the numbers of its line
pub record AtSpan (f t : List ℕ) (slab : Slab) (line : LineView) (work : LineWork) (d : Way) (s k : ℕ) : Type 0 where
  pub standing : Standing f t slab
  pub below : k < record_count f
  pub way_is : (place_of f k).way ≡ d
  pub span_is : (place_of f k).span ≡ s
  pub line_is : line ≡ line_view f d (place_of f k).line
  pub work_is : work ≡ line_work line (alpha_of line slab.t)

-- of a floor that its type says is accepted: its moments stand, and a table has room for them
pub record Stands (f t : List ℕ) : Type 0 where
  pub clear : verdict f ≡ 0
  pub table : Room (record_count f) t

-- the floor has a record of this kind and index, and α of all its lines is at hand
pub record Writable (f t : List ℕ) (a : List (List ℕ)) (kind index : ℕ) : Type 0 where
  pub stands : Stands f t
  pub alphas : AllAlphas f a
  pub listed : Listed f kind index

-- the table has record k
pub record Held (f t : List ℕ) (k : ℕ) : Type 0 where
  pub stands : Stands f t
  pub below : k < record_count f
  pub holds : (n : ℕ) → n < record_width → get_or t (k * record_width + n) 0 ≡ get_or (record_at f k) n 0
