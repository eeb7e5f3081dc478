-- What leaves ask of their callers. A reader who only wants to know what the program does need not read this file.
-- Assumes nothing.
use Rattle.std.specs.Prelude.{ℕ, ◌≤◌, ◌<◌, List, ◌≡◌, get_or}
use Rattle.plan.specs.declared.ways.Way.{Way}
use Rattle.plan.specs.Ways.{across}
use Rattle.plan.specs.Plan.{last_line}
use Rattle.floor.specs.Refusal.{refusal}
use Rattle.lines.specs.Rows.{Spans, Alphas}
use Rattle.lines.specs.Asked.{TwoAlphas}
use Rattle.extremes.specs.declared.Ends.{Ends}

-- a list whose first n values, at least one, are in range
pub record Values (a : List ℕ) (n : ℕ) : Type 0 where
  pub some : 0 < n
  pub few : n ≤ 13
  pub most : (i : ℕ) → i < n → get_or a i 0 ≤ 57600000000000000

-- one value in range, and ends of such
pub record Value (v : ℕ) : Type 0 where
  pub most : v ≤ 57600000000000000

pub record EndsIn (e : Ends) : Type 0 where
  pub least : e.least ≤ 57600000000000000

-- k of limits 2 and 32
pub record Ratio (k : ℕ) : Type 0 where
  pub most : k ≤ 5

-- the sum of two α and a span, from which p and q are worked out
pub record Share (pair span : ℕ) : Type 0 where
  pub pair_most : pair ≤ 400000000
  pub span_most : span ≤ 12000

-- bay k, with α of the lines on either side of it
pub record BaySharing (a s : List ℕ) (k : ℕ) : Type 0 where
  pub pair : TwoAlphas a k
  pub span_most : get_or s k 0 ≤ 12000

-- α of the lines along d, and the spans of the n bays across them
pub record Sharing (f : List ℕ) (d : Way) (a s : List ℕ) (n : ℕ) : Type 0 where
  pub accepted : refusal f ≡ 0
  pub alphas : Alphas f d 0 (last_line f d) a
  pub spans : Spans f (across d) s
  pub number : n ≡ last_line f d
