-- The loop's invariant: the limits passed are listed, and no other.
-- Assumes nothing.
use Prim.Native.Nat.{◌*◌, ◌≤◌}
use Rattle.limits.specs.Places.{limit_at}
use Rattle.broken.specs.Listing.{gathered, limit_places}
use Rattle.broken.specs.Laid.{Listed}
use Rattle.broken.proofs.list_all.Given as goal

abbrev pub invariant-loop-k : goal.invariant-loop-k
invariant-loop-k l = Listed 0 (gathered l.k (λ m. limit_places l.lines.survey.floor.bytes.now (limit_at m))) l.initial.places l.n l.places × (l.n ≤ 338 * l.k)
