-- Limit 8 looks at each column once: what a row of spans says of the columns along it.
-- Assumes nothing.
use Rattle.std.specs.Prelude.{ℕ, ◌≤◌, List, ◌≡◌, get_or}
use Rattle.plan.specs.declared.ways.Way.{Way}
use Rattle.plan.specs.Plan.{bays}
use Rattle.limits.specs.Limits.{adjoining}

-- a has, for each column along d, the shorter of the spans that adjoin it
pub record Adjoining (f : List ℕ) (d : Way) (a : List ℕ) : Type 0 where
  pub is : (k : ℕ) → k ≤ bays f d → get_or a k 0 ≡ adjoining f d k
