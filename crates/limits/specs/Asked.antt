-- What leaves ask of their callers. A reader who only wants to know what the program does need not read this file.
-- Assumes nothing.
use Rattle.std.specs.Prelude.{ℕ, ◌≤◌}

-- limit 4: two spans
pub record Neighbours (a b : ℕ) : Type 0 where
  pub one : a ≤ 12000
  pub other : b ≤ 12000
