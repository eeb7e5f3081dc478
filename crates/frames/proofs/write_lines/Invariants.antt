-- The loop's invariant: the named records of the lines passed are written, and nothing else.
-- Assumes nothing.
use Prim.Native.Nat.{◌*◌}
use mathlib.Core.Path.{◌≡◌}
use Rattle.numbers.specs.Records.{written_from}
use Rattle.plan.specs.Plan.{bays}
use Rattle.tables.specs.Width.{record_width}
use Rattle.tables.specs.Places.{first_of}
use Rattle.tables.specs.Named.{named_at}
use Rattle.frames.specs.Table.{record_at}
use Rattle.frames.proofs.write_lines.Given as goal

abbrev pub invariant-loop-l : goal.invariant-loop-l
invariant-loop-l l = let f = l.floor.bytes.now in
    l.table ≡ written_from record_width (named_at f l.named.kind l.named.index) (record_at f) (first_of f l.d) (l.l * bays f l.d) l.initial.table
