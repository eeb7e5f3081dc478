-- The loop's invariant: the shorter spans of the columns passed are stored.
-- Assumes nothing.
use mathlib.Core.Path.{◌≡◌}
use lib.ListN.{get_or, length}
use Rattle.lines.proofs.Filled.{Filled}
use Rattle.limits.specs.Limits.{lesser_at}
use Rattle.places.proofs.adjoining.Given as goal

abbrev pub invariant-loop-k : goal.invariant-loop-k
invariant-loop-k l = (length l.a ≡ 13) × Filled (lesser_at l.n (λ i. get_or l.s i 0)) 0 l.k l.a
