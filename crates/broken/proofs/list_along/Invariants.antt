-- The loop's invariant: the rows passed are listed, and no other.
-- Assumes nothing.
use Prim.Native.Nat.{◌+◌, ◌*◌, ◌≤◌}
use Rattle.broken.specs.Listing.{gathered, row_places}
use Rattle.broken.specs.Laid.{Listed}
use Rattle.broken.proofs.list_along.Given as goal

abbrev pub invariant-loop-j : goal.invariant-loop-j
invariant-loop-j l = Listed l.n (gathered l.j (row_places l.lines.survey.floor.bytes.now l.limit l.d)) l.initial.places l.m l.places × (l.m ≤ l.n + 13 * l.j)
