-- What leaves ask of their callers. A reader who only wants to know what the program does need not read this file.
-- Assumes nothing.
use Rattle.std.specs.Prelude.{ℕ, ◌<◌, List, ◌≡◌}
use Rattle.plan.specs.declared.ways.Way.TheVariants.{X, Y}
use Rattle.plan.specs.Plan.{bays}
use Rattle.floor.specs.Refusal.{refusal}

-- an accepted floor and a panel of it
pub record InPanel (f : List ℕ) (i j : ℕ) : Type 0 where
  pub accepted : refusal f ≡ 0
  pub x_bay : i < bays f X
  pub y_bay : j < bays f Y
