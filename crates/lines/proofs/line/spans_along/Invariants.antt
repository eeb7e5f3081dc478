-- The loop's invariant: the spans passed are stored.
-- Assumes nothing.
use mathlib.Core.Path.{◌≡◌}
use lib.ListN.{length}
use Rattle.plan.specs.Plan.{span}
use Rattle.lines.proofs.Filled.{Filled}
use Rattle.lines.proofs.line.spans_along.Given as goal

abbrev pub invariant-loop-k : goal.invariant-loop-k
invariant-loop-k l = (length l.s ≡ 13) × Filled (span l.plan.bytes.now l.d) 0 l.k l.s
