-- "x frames come first (line j, span i at j·nx + i), then y frames ((ny+1)·nx + i·ny + j)."
-- Assumes nothing.
use Rattle.std.specs.Prelude.{ℕ, ◌+◌, ◌-◌, ◌*◌, ◌/◌, ◌%◌, ◌≤◌, ◌<◌, cond, List, ltb}
use Rattle.plan.specs.declared.ways.Way.{Way}
use Rattle.plan.specs.declared.ways.Way.TheVariants.{X, Y}
use Rattle.plan.specs.declared.read.Bays.{Bays}
use Rattle.plan.specs.Ways.{pick}
use Rattle.plan.specs.Plan.{bays, last_line, bays_of}
use Rattle.tables.specs.declared.places.Found.{Found}

-- a span: of line `line` along `way`
pub record Place : Type 0 where
  pub way : Way
  pub line : ℕ
  pub span : ℕ

-- ---- things in lines, each line with as many as the others of its direction: along d, n d of them on each of the lines 0 to last d

-- with which those along d start: x frames come first, then y frames
abbrev pub start_in : (Way → ℕ) → (Way → ℕ) → Way → ℕ
start_in n last X = 0
start_in n last Y = (last X + 1) * n X

abbrev pub count_in : (Way → ℕ) → (Way → ℕ) → ℕ
count_in n last = start_in n last Y + (last Y + 1) * n Y

-- which of them, counted from 0, stands at a place, and the place of one
abbrev pub rank_in : (Way → ℕ) → (Way → ℕ) → Place → ℕ
rank_in n last p = start_in n last p.way + p.line * n p.way + p.span

abbrev pub in_way : Way → ℕ → ℕ → Place
in_way d n k = record { way = d; line = k / n; span = k % n }

abbrev pub place_in : (Way → ℕ) → (Way → ℕ) → ℕ → Place
place_in n last k = cond (ltb k (start_in n last Y)) (in_way X (n X) k) (in_way Y (n Y) (k - start_in n last Y))

pub record InsideOf (n last : Way → ℕ) (p : Place) : Type 0 where
  pub line : p.line ≤ last p.way
  pub span : p.span < n p.way

-- ---- the spans of a floor

-- one that the floor has
pub record Inside (f : List ℕ) (p : Place) : Type 0 where
  pub line : p.line ≤ last_line f p.way
  pub span : p.span < bays f p.way

-- how many records: "(ny+1)nx+(nx+1)ny"
abbrev pub records_of : Bays → ℕ
records_of b = (b.y + 1) * b.x + (b.x + 1) * b.y

unfoldable pub record_count : List ℕ → ℕ
record_count f = records_of (bays_of f)

-- the first record of the frames along a direction, and of line l along it
abbrev pub first_in : Bays → Way → ℕ
first_in b X = 0
first_in b Y = (b.y + 1) * b.x

abbrev pub line_first_in : Bays → Way → ℕ → ℕ
line_first_in b d l = first_in b d + l * pick d b.x b.y

abbrev pub first_of : List ℕ → Way → ℕ
first_of f d = start_in (bays f) (last_line f) d

abbrev pub line_first : List ℕ → Way → ℕ → ℕ
line_first f d l = first_of f d + l * bays f d

-- the record of a span, and the span of a record
abbrev pub number_of : List ℕ → Place → ℕ
number_of f p = rank_in (bays f) (last_line f) p

unfoldable pub place_of : List ℕ → ℕ → Place
place_of f k = place_in (bays f) (last_line f) k

-- the same by the floor's bays, as a program hands it on
abbrev pub found : Place → Found
found p = record { way = p.way; line = p.line; span = p.span }

abbrev pub place_among : Bays → ℕ → Place
place_among b k = cond (ltb k (first_in b Y)) (in_way X b.x k) (in_way Y b.y (k - first_in b Y))
