-- What leaves ask of their callers. A reader who only wants to know what the program does need not read this file.
-- Assumes nothing.
use Rattle.std.specs.Prelude.{ℕ, ◌+◌, ◌≤◌, ◌<◌, List, ◌≡◌}
use Rattle.plan.specs.declared.ways.Way.{Way}
use Rattle.plan.specs.declared.ways.Way.TheVariants.{X, Y}
use Rattle.plan.specs.declared.read.Bays.{Bays}
use Rattle.plan.specs.Plan.{bays}
use Rattle.plan.specs.Asked.{Sized}
use Rattle.floor.specs.Refusal.{refusal}
use Rattle.lines.specs.declared.slab.Slab.{Slab}
use Rattle.lines.specs.Rows.{Spans}
use Rattle.lines.specs.Asked.{Surveyed}
use Rattle.places.specs.Adjoining.{Adjoining}

-- the n spans along d of an accepted floor
pub record SpansAlong (f : List ℕ) (d : Way) (s : List ℕ) (n : ℕ) : Type 0 where
  pub accepted : refusal f ≡ 0
  pub spans : Spans f d s
  pub number : n ≡ bays f d

-- span k along d, and one after it
pub record AtSpan (f : List ℕ) (slab : Slab) (s : List (List ℕ)) (d : Way) (k : ℕ) : Type 0 where
  pub surveyed : Surveyed f slab s
  pub next : k + 1 < bays f d

-- k is where one of n spans starts or ends
pub record EndOf (n k : ℕ) : Type 0 where
  pub some : 0 < n
  pub few : n ≤ 12
  pub place : k ≤ n

-- the columns of a floor, with the spans that adjoin them; those on x line j; the one on y line i
pub record Columns (f : List ℕ) (b : Bays) (x y : List ℕ) : Type 0 where
  pub sized : Sized f b
  pub along_x : Adjoining f X x
  pub along_y : Adjoining f Y y

pub record ColumnRow (f : List ℕ) (b : Bays) (x y : List ℕ) (j : ℕ) : Type 0 where
  pub columns : Columns f b x y
  pub x_line : j ≤ b.y

pub record AtColumn (f : List ℕ) (b : Bays) (x y : List ℕ) (i j : ℕ) : Type 0 where
  pub row : ColumnRow f b x y j
  pub y_line : i ≤ b.x

-- the column on y line i and x line j, with all spans of the floor
pub record OneColumn (f : List ℕ) (slab : Slab) (s : List (List ℕ)) (i j : ℕ) : Type 0 where
  pub surveyed : Surveyed f slab s
  pub y_line : i ≤ bays f X
  pub x_line : j ≤ bays f Y

-- span k along d has one after it; the floor has a column on y line i and x line j
pub record HasNext (f : List ℕ) (d : Way) (k : ℕ) : Type 0 where
  pub next : k + 1 < bays f d

pub record HasColumn (f : List ℕ) (i j : ℕ) : Type 0 where
  pub y_line : i ≤ bays f X
  pub x_line : j ≤ bays f Y
