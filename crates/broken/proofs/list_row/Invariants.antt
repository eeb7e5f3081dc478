-- The loop's invariant: the places passed are listed, and no other.
-- Assumes nothing.
use Prim.Native.Nat.{◌+◌, ◌≤◌}
use Rattle.broken.specs.Listing.{gathered, one_place}
use Rattle.broken.specs.Laid.{Listed}
use Rattle.broken.proofs.list_row.Given as goal

abbrev pub invariant-loop-i : goal.invariant-loop-i
invariant-loop-i l = Listed l.n (gathered l.i (one_place l.lines.survey.floor.bytes.now l.limit l.d l.j)) l.initial.places l.m l.places × (l.m ≤ l.n + l.i)
