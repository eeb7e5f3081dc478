-- One number more (from_more).
-- Assumes nothing.
use Prim.Native.Nat.{ℕ, ◌+◌, ◌*◌, ◌-◌}
use mathlib.Core.List.{List}
use mathlib.Core.Path.{◌≡◌, sym, ap, ◌∙◌}
use native.Mathlib.Omega.{arith}
use lib.ListN.{get_or}
use Rattle.numbers.specs.Records.{put, written_from, every}
use Rattle.numbers.proofs.Written.{from_none, from_more}
use Rattle.bars.specs.declared.entry.Entry.{Entry}
use Rattle.bars.specs.Entries.{number_bytes, entry_numbers, four_bytes, eight_of, entry_at}
use Rattle.bars.proofs.entry.write_entry.Goals as goal

next : (k n : ℕ) (e : Entry) (t : List ℕ) {numbers u : List ℕ} → numbers ≡ eight_of e → u ≡ written_from number_bytes every (entry_at k e) (k * entry_numbers) n t
    → put number_bytes (k * entry_numbers + n) (four_bytes (get_or numbers n 0)) u ≡ written_from number_bytes every (entry_at k e) (k * entry_numbers) (n + 1) t
next k n e t numbers_are so =
    let i : n ≡ k * entry_numbers + n - k * entry_numbers = omega arith in
    rw (numbers_are, so) (ap (λ (m : ℕ). put number_bytes (k * entry_numbers + n) (four_bytes (get_or (eight_of e) m 0)) (written_from number_bytes every (entry_at k e) (k * entry_numbers) n t)) i)
    ∙ sym (from_more number_bytes every (entry_at k e) (k * entry_numbers) n t)

pub loop-n-init : goal.loop-n-init
loop-n-init c = sym (from_none number_bytes every _ _ _)

pub loop-n-preserved : goal.loop-n-preserved
loop-n-preserved c =
    c.write_number.ensures ∙ next c.args.k c.loop-n.n c.args.e c.args.schedule.now c.numbers_of-numbers.ensures c.loop-n.invariant
