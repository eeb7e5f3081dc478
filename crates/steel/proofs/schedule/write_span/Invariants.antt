-- After q turns the records of the first q strips are written (strip_next: one more).
-- Assumes nothing.
use Prim.Native.Nat.{◌*◌}
use mathlib.Core.Path.{◌≡◌}
use Rattle.numbers.specs.Records.{written_from, every}
use Rattle.bars.specs.Entries.{number_bytes, entry_numbers}
use Rattle.steel.specs.Strips.{span_numbers, strip_bytes}
use Rattle.steel.proofs.schedule.write_span.Given as goal

abbrev pub invariant-loop-q : goal.invariant-loop-q
invariant-loop-q l = l.schedule ≡ written_from number_bytes every (strip_bytes l.s l.m l.k) (l.k * span_numbers) (l.q * entry_numbers) l.initial.schedule
