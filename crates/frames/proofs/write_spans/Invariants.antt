-- The loop's invariant: the records of the spans passed are written, and nothing else.
-- Assumes nothing.
use Prim.Native.Nat.{◌+◌, ◌-◌}
use mathlib.Core.Path.{◌≡◌}
use Rattle.numbers.specs.Records.{written_from, every}
use Rattle.tables.specs.Width.{record_width}
use Rattle.tables.specs.Places.{line_first}
use Rattle.frames.specs.Table.{record_at}
use Rattle.frames.proofs.write_spans.Given as goal

abbrev pub invariant-loop-s : goal.invariant-loop-s
invariant-loop-s l = let f = l.floor.bytes.now in
    l.table ≡ written_from record_width every (record_at f) (line_first f l.d l.l + l.initial.s) (l.s - l.initial.s) l.initial.table
