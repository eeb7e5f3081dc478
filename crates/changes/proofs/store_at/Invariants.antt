-- The loop's invariant: the first j bytes are pasted, and the length stays.
-- Assumes nothing.
use mathlib.Core.Path.{◌≡◌}
use lib.ListN.{length}
use lib.Seq.{paste}
use Rattle.changes.proofs.store_at.Given as goal

abbrev pub invariant-loop-j : goal.invariant-loop-j
invariant-loop-j l = (l.dst ≡ paste l.initial.dst l.at l.src l.j) × (length l.dst ≡ length l.initial.dst)
