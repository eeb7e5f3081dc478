-- What leaves ask of their callers. A reader who only wants to know what the program does need not read this file.
-- Assumes nothing.
use Rattle.std.specs.Prelude.{ℕ, ◌≤◌}

-- a strip with the steel that it asks for
pub record Reinforced (width area t : ℕ) : Type 0 where
  pub width_most : width ≤ 12000
  pub area_least : 1 ≤ area
  pub slab_most : t ≤ 500

-- and a bar's area
pub record Barred (bar width area t : ℕ) : Type 0 where
  pub strip : Reinforced width area t
  pub bar_most : bar ≤ 201
