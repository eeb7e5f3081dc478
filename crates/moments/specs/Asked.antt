-- What leaves ask of their callers. A reader who only wants to know what the program does need not read this file.
-- Assumes nothing.
use Rattle.std.specs.Prelude.{ℕ, Bool, List, ◌≡◌}
use Rattle.floor.specs.Refusal.{refusal}
use Rattle.limits.specs.Limits.{is_clear}
use Rattle.tables.specs.Places.{record_count}
use Rattle.plan.specs.Plan.{bays_of}
use Rattle.tables.specs.Asked.{Room}
use Rattle.supports.specs.Governing.{support_count}
use Rattle.supports.specs.Asked.{SupportRoom}
use Rattle.frames.specs.Asked.{Listed}

-- an accepted floor, slices that have room for its records and supports, and the kind and index of a record of it
pub record Settling (f t g : List ℕ) (kind index : ℕ) : Type 0 where
  pub accepted : refusal f ≡ 0
  pub table : Room (record_count f) t
  pub governing : SupportRoom (support_count (bays_of f)) g
  pub listed : Listed f kind index

-- with whether the verdict of the floor is clear
pub record Judging (f t : List ℕ) (stands : Bool) : Type 0 where
  pub table : Room (record_count f) t
  pub verdict : stands ≡ is_clear f

-- and a record of it
pub record Rewriting (f t : List ℕ) (stands : Bool) (kind index : ℕ) : Type 0 where
  pub judging : Judging f t stands
  pub listed : Listed f kind index
