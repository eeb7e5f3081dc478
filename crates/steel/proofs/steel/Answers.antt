-- By cases of the range; within it the search's answer over the query's limits.
-- Assumes nothing.
use mathlib.Core.Path.{sym, ◌∙◌}
use Rattle.steel.specs.Steel.{steel_of}
use Rattle.steel.proofs.Ranges.{says_in_range}
use Rattle.steel.proofs.Bounds.{searchable}
use Rattle.steel.proofs.steel.Goals as goal

pub returns-then-not-in_range : goal.returns-then-not-in_range
unfolding steel_of
returns-then-not-in_range c = rw (← c.in_range.ensures, c.if-not-in_range.true)

pub limits_of-requires : goal.limits_of-requires
limits_of-requires c = (says_in_range _).holds (sym c.in_range.ensures ∙ c.if-not-in_range.false)

pub least_within-requires : goal.least_within-requires
least_within-requires c = rw c.limits_of.ensures (searchable ((says_in_range _).holds (sym c.in_range.ensures ∙ c.if-not-in_range.false)))

pub returns : goal.returns
unfolding steel_of
returns c = rw (← c.in_range.ensures, c.if-not-in_range.false, ← c.limits_of.ensures) c.least_within.ensures
