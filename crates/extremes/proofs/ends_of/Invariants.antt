-- The loop's invariant: the least and the most of the values passed.
-- Assumes nothing.
use mathlib.Core.Path.{◌≡◌}
use lib.ListN.{get_or}
use Rattle.numbers.specs.Extremes.{most_of, least_of}
use Rattle.extremes.proofs.ends_of.Given as goal

abbrev pub invariant-loop-v : goal.invariant-loop-v
invariant-loop-v l = (l.least ≡ least_of l.v-index (λ j. get_or l.values j 0)) × (l.most ≡ most_of l.v-index (λ j. get_or l.values j 0))
