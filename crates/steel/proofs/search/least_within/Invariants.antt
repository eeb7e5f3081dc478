-- The loop keeps: no area within the limits below `area` carries the moment.
-- Assumes nothing.
use Prim.Native.Nat.{suc, ◌-◌, ◌≤◌}
use Rattle.steel.proofs.Climb.{Passed}
use Rattle.steel.proofs.search.least_within.Given as goal

abbrev pub invariant-loop-area : goal.invariant-loop-area
invariant-loop-area l = (l.initial.area ≤ l.area) × Passed (record { fy = l.fy; block = l.block; load = l.load; least = l.initial.area; most = l.most }) l.area

abbrev pub decreases-loop-area : goal.decreases-loop-area
decreases-loop-area l = suc l.most - l.area
