-- The two directions and the two ends. "An x line runs along x; x line 0 is south, y line 0 is west."
-- Assumes nothing.
use Rattle.std.specs.Prelude.{ℕ}
use Rattle.plan.specs.Fields.{part_a, part_b}
use Rattle.plan.specs.declared.ways.Way.{Way}
use Rattle.plan.specs.declared.ways.Way.TheVariants.{X, Y}
use Rattle.plan.specs.declared.ways.End.{End}
use Rattle.plan.specs.declared.ways.End.TheVariants.{Low, High}

-- of two numbers, the one that belongs to a direction
abbrev pub pick : Way → ℕ → ℕ → ℕ
pick X x y = x
pick Y x y = y

abbrev pub across : Way → Way
across X = Y
across Y = X

-- the kinds of records of a direction: 5 x span, 6 y span; 7 beam on x line, 8 beam on y line
abbrev pub span_kind : Way → ℕ
span_kind d = pick d 5 6

abbrev pub line_kind : Way → ℕ
line_kind d = pick d 7 8

-- sizes along x stand in a, along y in b: cx and cy, and an offset's two sizes
abbrev pub part_of : Way → ℕ
part_of d = pick d part_a part_b

-- "Sides = west + 4·east + 16·south + 64·north"
abbrev pub side_unit : Way → End → ℕ
side_unit d Low = pick d 1 16
side_unit d High = pick d 4 64
