-- The loop's invariant: α of the lines passed is stored, and the other places are as they were.
-- Assumes nothing.
use Prim.Native.Nat.{◌+◌, ◌≤◌}
use mathlib.Core.Logic.{◌⊎◌}
use mathlib.Core.Path.{◌≡◌}
use lib.ListN.{length}
use Rattle.lines.specs.Lines.{line_alpha}
use Rattle.lines.proofs.Filled.{Filled, Untouched}
use Rattle.lines.proofs.survey.Survey.fill_along.Given as goal

abbrev pub invariant-loop-l : goal.invariant-loop-l
invariant-loop-l l = (length l.a ≡ 13) × Filled (line_alpha l.self.floor.bytes.now l.d) l.from l.l l.a × Untouched l.from l.l l.initial.a l.a × ((l.l ≤ l.to + 1) ⊎ (l.l ≤ l.from))
