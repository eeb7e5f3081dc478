-- What a caller lends beside the floor, as one thing: one more buffer is one more field here, and no statement gains an argument.
-- Assumes nothing.
use Rattle.std.specs.Prelude.{ℕ, List}

pub record Lent : Type 0 where
  pub table : List ℕ
  -- 02, One: "kept in a second lent slice beside the table"
  pub governing : List ℕ

-- the slices that a call takes
abbrev pub lent : List ℕ → List ℕ → Lent
lent t g = record { table = t; governing = g }
