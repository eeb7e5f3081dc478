-- 02, Five as amended by Six: what is asked of the steel of a strip, and what it is to lack it, in its words. Where a strip has such steel, `reinforcement_of`
-- gives it, and nothing else is such steel (proofs/Strips); where it has none, it lacks it for one of 02's three reasons (proofs/Lacking).
-- Assumes nothing.
use Rattle.std.specs.Prelude.{ℕ, ◌<◌, List, ◌≡◌}
use Rattle.numbers.specs.Least.{Least}
use Rattle.numbers.specs.Tests.{All, Some}
use Rattle.answers.specs.Answers.{answer}
use Rattle.tables.specs.Places.{record_count}
use Rattle.bars.specs.Choice.{bars}
use Rattle.bars.specs.Meaning.{Chosen, NoBar}
use Rattle.frames.specs.Spans.{span_at}
use Rattle.steel.specs.declared.query.Query.{Query}
use Rattle.steel.specs.declared.strip.Reinforcement.{Reinforcement}
use Rattle.steel.specs.Area.{Fits}
use Rattle.steel.specs.Steel.{SteelAnswer}
use Rattle.steel.specs.Strips.{strips, materials_of, strip_query}

-- something is left of the strip; "The area is the steel answer for that moment and width", at the query's depth; "The smallest bar that allows a spacing is
-- taken", with the largest spacing that it allows
pub record StripSteel (query : Query) (r : Reinforcement) : Type 0 where
  pub wide : 0 < query.b
  pub area : SteelAnswer query (answer 0 r.area)
  pub bars : Chosen query.b r.area query.t (bars r.diameter r.spacing)

-- 17: "a strip width of 0 or less, no steel area that fits, or no bar that allows a spacing", for the least area that does
pub data Lacks (query : Query) : Type 0 where
  width : query.b ≡ 0 → Lacks query
  area : 0 < query.b → ((As : ℕ) → ¬ Fits query As) → Lacks query
  bar : 0 < query.b → (As : ℕ) → Least (Fits query) As → NoBar query.b As query.t → Lacks query

-- the query of strip q of record k of the table
abbrev pub query_in : List ℕ → ℕ → ℕ → Query
query_in f k q = strip_query (span_at f k) (materials_of f) q

-- every strip of every section of every span has its steel: no "strip width of 0 or less", no strip with "no steel area that fits, or no bar that allows a
-- spacing"
abbrev pub AllBarred : List ℕ → Type 0
AllBarred f = All (record_count f) (λ k. All strips (λ q. (r : Reinforcement) × StripSteel (query_in f k q) r))

-- some strip lacks its steel
abbrev pub SomeLacks : List ℕ → Type 0
SomeLacks f = Some (record_count f) (λ k. Some strips (λ q. Lacks (query_in f k q)))
