-- What holds of the numbers of an accepted floor: "The floor file", the table's last column by name, and refusals 6 and 7.
-- What is not there reads 0, so an upper bound holds at any index, a lower bound only where the record is there.
-- Assumes nothing.
use Rattle.std.specs.Prelude.{ℕ, ◌%◌, ◌≤◌, ◌<◌, List, ◌≡◌, length}
use Rattle.records.specs.Meaning.{In, Materials, Loads, Column, Beam}
use Rattle.plan.specs.declared.ways.Way.{Way}
use Rattle.plan.specs.declared.ways.End.{End}
use Rattle.plan.specs.Plan.{bays, thickness, strength, grade, dead, live, column, side, span, beam_width, beam_depth, offset}
use Rattle.layouts.specs.Layouts.{layout_of}
use Rattle.floor.specs.Meaning.{Counted}
use Rattle.layouts.specs.Meaning.{ColumnsFit, Beamed, LaidOut, LayoutIs}

pub record Fair (f : List ℕ) : Type 0 where
  pub whole : Counted f
  pub short : length f ≤ 3568
  pub bays_in : (d : Way) → In 1 12 (bays f d)
  pub thickness_in : In 90 500 (thickness f)
  pub materials : Materials (strength f) (grade f)
  pub loads : Loads (dead f) (live f)
  pub column_in : (d : Way) → Column (column f d)
  pub side_most : (d : Way) (e : End) → side f d e ≤ 2
  pub span_least : (d : Way) (i : ℕ) → i < bays f d → 1000 ≤ span f d i
  pub span_most : (d : Way) (i : ℕ) → span f d i ≤ 12000
  pub span_twenties : (d : Way) (i : ℕ) → span f d i % 20 ≡ 0
  pub beam : (d : Way) (l : ℕ) → Beam (beam_width f d l) (beam_depth f d l)
  pub width_most : (d : Way) (l : ℕ) → beam_width f d l ≤ 1000
  pub depth_most : (d : Way) (l : ℕ) → beam_depth f d l ≤ 1500
  pub offset_most : (d : Way) (i j : ℕ) → offset f d i j ≤ 12000
  pub clear : ColumnsFit f
  pub layout : LaidOut f (layout_of f)
  pub layout_is : LayoutIs f
  pub deep : (d : Way) (l : ℕ) → Beamed f d l → thickness f < beam_depth f d l
