-- What functions of this crate ask of their callers. A reader who only wants to know what the program does need not read this file.
-- Assumes nothing.
use Rattle.std.specs.Prelude.{ℕ, ◌≤◌}

-- bays as refusal 2 leaves them, which keeps every count and place small
pub record Small (nx ny : ℕ) : Type 0 where
  pub x : nx ≤ 12
  pub y : ny ≤ 12

-- and a kind of the table
pub record Kinded (nx ny k : ℕ) : Type 0 where
  pub x : nx ≤ 12
  pub y : ny ≤ 12
  pub kind : k ≤ 9
