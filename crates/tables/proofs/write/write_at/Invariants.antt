-- After n turns the first n values are pasted in (paste-suc: one number more), and all of them after the last.
-- Assumes nothing.
use mathlib.Core.Path.{◌≡◌}
use lib.ListN.{length}
use lib.Seq.{paste}
use Rattle.tables.proofs.write.write_at.Given as goal

abbrev pub invariant-loop-n : goal.invariant-loop-n
invariant-loop-n l = (l.slice ≡ paste l.initial.slice l.at l.values l.n) × (length l.slice ≡ length l.initial.slice)
