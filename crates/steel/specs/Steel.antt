-- "Slab steel": the answer of a query.
-- That `steel_of` is the answer that `SteelAnswer` describes, and the only one, is proved in proofs/Answers.
-- Assumes nothing.
use Rattle.std.specs.Prelude.{ℕ, ◌*◌, ◌/◌, cond, eqb}
use Rattle.numbers.specs.Rounding.{up}
use Rattle.answers.specs.declared.Answer.{Answer}
use Rattle.answers.specs.Answers.{answer}
use Rattle.steel.specs.declared.query.Query.{Query}
use Rattle.steel.specs.declared.search.Limits.{Limits}
use Rattle.steel.specs.Query.{InRange, in_range, depth_of}
use Rattle.steel.specs.Area.{K, Fits}
use Rattle.steel.specs.Answered.{Answered}
use Rattle.steel.specs.Search.{least_within}

-- what 01 asks of the answer
abbrev pub SteelAnswer : Query → Answer → Type 0
SteelAnswer q = Answered (InRange q) (Fits q)

-- ---- the number that it comes to

-- the least As that reaches the minimum, and the largest within the strain limit
unfoldable pub minimum_area : Query → ℕ
minimum_area q = cond (eqb q.fy 280) (up (2 * q.b * q.t) 1000) (up (756 * q.b * q.t) (1000 * q.fy))

unfoldable pub strain_area : Query → ℕ
strain_area q = 51 * K q.fc * q.fc * q.b * depth_of q / (224000 * q.fy)

unfoldable pub limits_of : Query → Limits
limits_of q = record {
  fy = q.fy;
  block = 17 * q.fc * q.b * depth_of q;
  load = 1700 * q.fc * q.b * q.m;
  least = minimum_area q;
  most = strain_area q;
}

unfoldable pub steel_of : Query → Answer
steel_of q = cond (in_range q) (least_within (limits_of q)) (answer 11 0)
