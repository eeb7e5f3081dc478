-- After k turns the first k records are zeros (written_more: one record more).
-- Assumes nothing.
use mathlib.Core.Path.{◌≡◌}
use Rattle.numbers.specs.Records.{written, every}
use Rattle.tables.specs.Width.{record_width}
use Rattle.tables.specs.Blank.{zeros}
use Rattle.tables.proofs.write.blank.Given as goal

abbrev pub invariant-loop-k : goal.invariant-loop-k
invariant-loop-k l = l.table ≡ written record_width every zeros l.k l.initial.table
