-- What functions of this crate ask of their callers. A reader who only wants to know what the program does need not read this file.
-- Assumes nothing.
use Rattle.std.specs.Prelude.{ℕ, ◌+◌, ◌*◌, ◌≤◌, List, ◌≡◌, length}
use Rattle.plan.specs.declared.ways.Way.TheVariants.{X, Y}
use Rattle.plan.specs.declared.read.Bays.{Bays}
use Rattle.plan.specs.Plan.{bays, bays_of}

-- record q lies in file f
pub record InFile (f : List ℕ) (q : ℕ) : Type 0 where
  pub inside : q * 16 + 16 ≤ length f

-- and this is a part of it
pub record PartIn (f : List ℕ) (q part : ℕ) : Type 0 where
  pub inside : q * 16 + 16 ≤ length f
  pub field : part ≤ 3

-- b has the bays of f
pub record Sized (f : List ℕ) (b : Bays) : Type 0 where
  pub is : b ≡ bays_of f
  pub x : b.x ≡ bays f X
  pub y : b.y ≡ bays f Y
  pub x_most : b.x ≤ 12
  pub y_most : b.y ≤ 12

-- n records from record `from` on, of some floor, and a part of a record
pub record Entries (from n part : ℕ) : Type 0 where
  pub first : from ≤ 54
  pub number : n ≤ 169
  pub field : part ≤ 3

-- one of kinds 1 to 4, which have one record each and stand before all others; and a part of it
pub record Single (k part : ℕ) : Type 0 where
  pub least : 1 ≤ k
  pub most : k ≤ 4
  pub field : part ≤ 3
