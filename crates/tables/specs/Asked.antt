-- What leaves ask of their callers. A reader who only wants to know what the program does need not read this file.
-- Assumes nothing.
use Rattle.std.specs.Prelude.{ℕ, ◌*◌, ◌≤◌, ◌<◌, List, length}
use Rattle.plan.specs.declared.read.Bays.{Bays}
use Rattle.tables.specs.Width.{record_width}
use Rattle.tables.specs.Places.{records_of}

-- the bays of some floor, and a line's number there
pub record Bayed (b : Bays) : Type 0 where
  pub x : b.x ≤ 12
  pub y : b.y ≤ 12

pub record OnLine (b : Bays) (l : ℕ) : Type 0 where
  pub bayed : Bayed b
  pub line : l ≤ 12

-- the number of a record of some floor
pub record Numbered (b : Bays) (k : ℕ) : Type 0 where
  pub bayed : Bayed b
  pub below : k < records_of b

-- a line of n spans, and the index of a record of some floor
pub record Naming (n index : ℕ) : Type 0 where
  pub least : 1 ≤ n
  pub index_most : index ≤ 168

-- room for n records
pub record Room (n : ℕ) (t : List ℕ) : Type 0 where
  pub room : n * record_width ≤ length t
