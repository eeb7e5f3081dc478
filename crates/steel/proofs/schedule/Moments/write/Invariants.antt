-- After k turns the records of the first k spans are written (span_next: one more).
-- Assumes nothing.
use Prim.Native.Nat.{◌*◌}
use mathlib.Core.Path.{◌≡◌}
use Rattle.numbers.specs.Records.{written, every}
use Rattle.bars.specs.Entries.{number_bytes}
use Rattle.steel.specs.Strips.{span_numbers}
use Rattle.steel.specs.Schedule.{schedule_bytes}
use Rattle.steel.proofs.schedule.Moments.write.Given as goal

abbrev pub invariant-loop-k : goal.invariant-loop-k
invariant-loop-k l = l.schedule ≡ written number_bytes every (schedule_bytes l.fn.self.floor.bytes.now) (l.k * span_numbers) l.initial.schedule
