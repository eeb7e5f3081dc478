-- What leaves ask of their callers. A reader who only wants to know what the program does need not read this file.
-- The numbers of an accepted floor have these ranges: "The floor file", refusals 5 and 6.
-- Assumes nothing.
use Rattle.std.specs.Prelude.{ℕ, ◌*◌, ◌≤◌, ◌<◌, ◌^◌}

-- a panel: its grade of steel, and its shorter and longer clear span; a column is 200 or more, and twice the column is at most the span
pub record PanelSizes (fy sn ln : ℕ) : Type 0 where
  pub grade : fy ≤ 520
  pub least : 500 ≤ sn
  pub order : sn ≤ ln
  pub most : ln ≤ 11800

-- and S where the second rule of "Least thickness" is worked out
pub record Middle (fy sn ln S : ℕ) : Type 0 where
  pub panel : PanelSizes fy sn ln
  pub above : 8000 < S
  pub most : S ≤ 80000

-- a divisor of the table, and the longer clear span
pub record ByTable (divisor ln : ℕ) : Type 0 where
  pub least : 28 ≤ divisor
  pub most : divisor ≤ 36
  pub longer : ln ≤ 11800

-- the answer of 01, of which ten percent more is worked out
pub record Answered (t : ℕ) : Type 0 where
  pub most : t ≤ 422

-- a slab's thickness
pub record SlabMost (t : ℕ) : Type 0 where
  pub most : t ≤ 500

-- a multiple of d that fits
pub record Multiple (d t : ℕ) : Type 0 where
  pub positive : 0 < d
  pub room : t * d < 2 ^ 64
