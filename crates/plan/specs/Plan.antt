-- The floor's numbers by kind and index, and by name, the same for both directions. What is not there reads 0.
-- Assumes nothing.
use Rattle.std.specs.Prelude.{ℕ, ◌+◌, ◌*◌, ◌/◌, ◌%◌, cond, ◌&&◌, List, ltb, leb}
use Rattle.records.specs.Kinds.{size_kind, material_kind, load_kind, column_kind, offset_kind, count_of, start_of}
use Rattle.plan.specs.declared.ways.Way.{Way}
use Rattle.plan.specs.declared.ways.Way.TheVariants.{X, Y}
use Rattle.plan.specs.declared.ways.End.{End}
use Rattle.plan.specs.declared.read.Bays.{Bays}
use Rattle.plan.specs.Fields.{part_a, part_b, part_c, part_at}
use Rattle.plan.specs.Ways.{pick, across, span_kind, line_kind, part_of, side_unit}

-- bays nx and ny, as record 0 has them; more than 12 count as none, so that a damaged file reads as a small floor (refusal 2 is given before that matters)
abbrev pub up_to_twelve : ℕ → ℕ
up_to_twelve n = cond (leb n 12) n 0

unfoldable pub bays : List ℕ → Way → ℕ
bays f d = up_to_twelve (pick d (part_at f 0 part_a) (part_at f 0 part_b))

abbrev pub bays_of : List ℕ → Bays
bays_of f = record { x = bays f X; y = bays f Y }

-- how many records of kind k this floor has, and which record is the first of them
abbrev pub many : List ℕ → ℕ → ℕ
many f k = count_of (bays f X) (bays f Y) k

abbrev pub start : List ℕ → ℕ → ℕ
start f k = start_of (bays f X) (bays f Y) k

-- a part of the record of kind k and index i
unfoldable pub value : List ℕ → ℕ → ℕ → ℕ → ℕ
value f k i part = cond (ltb i (many f k)) (part_at f (start f k + i) part) 0

-- 1 sizes: slab t
abbrev pub thickness : List ℕ → ℕ
thickness f = value f size_kind 0 part_c

-- 2 materials: fc, fy
abbrev pub strength : List ℕ → ℕ
strength f = value f material_kind 0 part_a

abbrev pub grade : List ℕ → ℕ
grade f = value f material_kind 0 part_b

-- 3 loads: dead D, live L
abbrev pub dead : List ℕ → ℕ
dead f = value f load_kind 0 part_a

abbrev pub live : List ℕ → ℕ
live f = value f load_kind 0 part_b

-- 4 columns: the column's size along d, and the code of the side at an end of d
abbrev pub column : List ℕ → Way → ℕ
column f d = value f column_kind 0 (part_of d)

abbrev pub side : List ℕ → Way → End → ℕ
side f d e = value f column_kind 0 part_c / side_unit d e % 4

-- 5, 6: span i along d
abbrev pub span : List ℕ → Way → ℕ → ℕ
span f d i = value f (span_kind d) i part_a

-- the lines along d are numbered from 0 to this one
abbrev pub last_line : List ℕ → Way → ℕ
last_line f d = bays f (across d)

-- 7, 8: the beam on line l along d, both sizes 0 where there is none
abbrev pub beam_width : List ℕ → Way → ℕ → ℕ
beam_width f d l = value f (line_kind d) l part_a

abbrev pub beam_depth : List ℕ → Way → ℕ → ℕ
beam_depth f d l = value f (line_kind d) l part_b

-- 9: the offset along d of the column on y line i, x line j, which is record j(nx + 1) + i
unfoldable pub offset : List ℕ → Way → ℕ → ℕ → ℕ
offset f d i j =
    cond (leb i (bays f X) && leb j (bays f Y)) (value f offset_kind (j * (bays f X + 1) + i) (part_of d)) 0
