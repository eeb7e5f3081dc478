-- What leaves ask of their callers. A reader who only wants to know what the program does need not read this file.
-- Assumes nothing.
use Rattle.std.specs.Prelude.{ℕ, ◌≤◌, ◌<◌, List, ◌≡◌}
use Rattle.plan.specs.declared.ways.Way.{Way}
use Rattle.plan.specs.declared.read.Bays.{Bays}
use Rattle.plan.specs.Plan.{bays_of}
use Rattle.limits.specs.declared.Limit.{Limit}
use Rattle.limits.specs.Limits.{verdict}
use Rattle.limits.specs.Places.{extent}
use Rattle.limits.specs.Meaning.{PlaceOf}

-- the bays of a floor
pub record SomeBays (b : Bays) : Type 0 where
  pub x_some : 1 ≤ b.x
  pub x_most : b.x ≤ 12
  pub y_some : 1 ≤ b.y
  pub y_most : b.y ≤ 12

-- a place of a limit
pub record AtPlace (f : List ℕ) (l : Limit) (d : Way) (i j : ℕ) : Type 0 where
  pub place : PlaceOf f l d i j

-- n places are listed
pub record Counted (n : ℕ) : Type 0 where
  pub most : n ≤ 5000

-- row j of a limit's places along d, after n places
pub record InRow (f : List ℕ) (l : Limit) (d : Way) (j n : ℕ) : Type 0 where
  pub row : j < (extent l d (bays_of f)).y
  pub most : n ≤ 4000

-- a direction of a limit, after n places
pub record Along (n : ℕ) : Type 0 where
  pub most : n ≤ 3500

-- a limit, after n places
pub record OfLimit (n : ℕ) : Type 0 where
  pub most : n ≤ 3000

-- v is the floor's verdict
pub record Judged (f : List ℕ) (v : ℕ) : Type 0 where
  pub verdict : v ≡ verdict f
