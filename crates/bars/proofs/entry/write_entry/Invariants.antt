-- After n turns the first n numbers of the record are written.
-- Assumes nothing.
use Prim.Native.Nat.{◌*◌}
use mathlib.Core.Path.{◌≡◌}
use Rattle.numbers.specs.Records.{written_from, every}
use Rattle.bars.specs.Entries.{number_bytes, entry_numbers, entry_at}
use Rattle.bars.proofs.entry.write_entry.Given as goal

abbrev pub invariant-loop-n : goal.invariant-loop-n
invariant-loop-n l = l.schedule ≡ written_from number_bytes every (entry_at l.fn.k l.fn.e) (l.fn.k * entry_numbers) l.n l.initial.schedule
