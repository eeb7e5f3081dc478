-- The loop stops at the first two neighbours that are unlike.
-- Assumes nothing.
use mathlib.Core.Bool.{false}
use mathlib.Core.Path.{◌≡◌}
use Rattle.numbers.specs.Tests.{some}
use Rattle.places.proofs.AtPlace.{unlike_at}
use Rattle.places.proofs.uneven.Given as goal

abbrev pub invariant-loop-k : goal.invariant-loop-k
invariant-loop-k l = some l.k (unlike_at l.s) ≡ false
