-- What functions of this crate ask of their callers. A reader who only wants to know what the program does need not read this file.
-- Assumes nothing.
use Rattle.std.specs.Prelude.{ℕ, ◌≤◌, List}
use Rattle.plan.specs.declared.ways.Way.{Way}
use Rattle.plan.specs.declared.read.Bays.{Bays}
use Rattle.plan.specs.Asked.{Sized}
use Rattle.plan.specs.Plan.{bays}
use Rattle.layouts.specs.Meaning.{LayoutAllowed}

-- b has the bays of f, at least one each way, so that there is a line 1 along either direction
pub record Lined (f : List ℕ) (b : Bays) : Type 0 where
  pub sized : Sized f b
  pub bay : (d : Way) → 1 ≤ bays f d

-- and the beams of f are laid out as one of the layouts has them
pub record Allowed (f : List ℕ) (b : Bays) : Type 0 where
  pub lined : Lined f b
  pub allowed : LayoutAllowed f

-- the same of the floor alone, for a plan, which has its bays: there is a bay each way
pub record Bayed (f : List ℕ) : Type 0 where
  pub bay : (d : Way) → 1 ≤ bays f d

-- and its beams are laid out as one of the layouts has them
pub record Regular (f : List ℕ) : Type 0 where
  pub bayed : Bayed f
  pub allowed : LayoutAllowed f
