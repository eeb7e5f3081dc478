-- The numbers of the refusals: none is 0, which is success.
-- Assumes nothing.
use Prim.Native.Nat.{◌<◌}
use mathlib.Core.Path.{◌≡◌}
use native.Mathlib.Omega.{arith}
use Rattle.answers.specs.declared.Refusal.{Refusal}
use Rattle.answers.specs.declared.Refusal.TheVariants.{Length, FirstRecord, RecordCount, NotAsListed, OutOfRange, ColumnTooWide, BeamLayout, TableRoom, NoChange, NoPanel, QueryOutOfRange, NoArea, GoverningRoom, ScheduleRoom, NotClear, NoBars, PlacesRoom}
use Rattle.answers.specs.Answers.{number}

pub positive : (r : Refusal) → 0 < number r
positive Length = omega arith
positive FirstRecord = omega arith
positive RecordCount = omega arith
positive NotAsListed = omega arith
positive OutOfRange = omega arith
positive ColumnTooWide = omega arith
positive BeamLayout = omega arith
positive TableRoom = omega arith
positive NoChange = omega arith
positive NoPanel = omega arith
positive QueryOutOfRange = omega arith
positive NoArea = omega arith
positive GoverningRoom = omega arith
positive ScheduleRoom = omega arith
positive NotClear = omega arith
positive NoBars = omega arith
positive PlacesRoom = omega arith

pub not_zero : (r : Refusal) → number r ≡ 0 → ⊥
not_zero r e = absurd (omega (arith, positive r, e))
