-- The loop's invariant: the supports next to a named span of the lines passed are written, and nothing else.
-- Assumes nothing.
use Prim.Native.Nat.{◌*◌}
use mathlib.Core.Path.{◌≡◌}
use Rattle.numbers.specs.Records.{written_from}
use Rattle.tables.specs.Places.{start_in}
use Rattle.supports.specs.Governing.{support_width, last_of, supports_of, support_at}
use Rattle.supports.specs.Beside.{beside_at}
use Rattle.supports.proofs.write_lines.Given as goal

abbrev pub invariant-loop-l : goal.invariant-loop-l
invariant-loop-l l = l.governing
    ≡ written_from support_width (beside_at l.b l.named.kind l.named.index) (support_at l.b l.table) (start_in (supports_of l.b) (last_of l.b) l.d) (l.l * supports_of l.b l.d) l.initial.governing
