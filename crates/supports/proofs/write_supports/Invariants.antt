-- The loop's invariant: the supports passed are written, and nothing else.
-- Assumes nothing.
use Prim.Native.Nat.{◌+◌, ◌-◌}
use mathlib.Core.Path.{◌≡◌}
use Rattle.numbers.specs.Records.{written_from, every}
use Rattle.supports.specs.Governing.{support_width}
use Rattle.supports.proofs.Lines.{line_support}
use Rattle.supports.proofs.write_supports.Given as goal

abbrev pub invariant-loop-s : goal.invariant-loop-s
invariant-loop-s l = l.governing ≡ written_from support_width every (line_support l.table l.first l.n l.start) (l.start + l.initial.s) (l.s - l.initial.s) l.initial.governing
