-- After q turns the records of the first q strips are written (strip_next: one more).
-- Assumes nothing.
use mathlib.Core.Path.{◌≡◌, sym, ◌∙◌}
use Rattle.std.specs.Prelude.{Some}
use borrow.Author.Rules.{rules}
use Rattle.numbers.proofs.Tests.{at}
use Rattle.numbers.proofs.Written.{from_none}
use Rattle.bars.specs.Entries.{number_bytes}
use Rattle.numbers.specs.Records.{every}
use Rattle.steel.specs.Strips.{strip_moment, entry_of, has_bars}
use Rattle.steel.proofs.Laid.{there, strip_written}
use Rattle.steel.proofs.schedule.write_span.Goals.{in-Some, in_default}
use Rattle.steel.proofs.schedule.write_span.Goals.{Joined-barred_entry}
use Rattle.steel.proofs.schedule.write_span.Goals as goal

pub loop-q-init : goal.loop-q-init
loop-q-init c = sym (from_none number_bytes every _ _ _)

pub barred_entry-requires : goal.barred_entry-requires
unfolding strip_moment
barred_entry-requires c = let r = c.requires.framed in
    record { strip = r.strip; width = r.width; six = c.loop-q-test.true; moment_is = rw c.moment_number.ensures.0 }

barred : (c : Joined-barred_entry) → c.barred_entry.result ≡ Some (entry_of c.args.s c.args.m c.args.k c.loop-q.q)
barred c = there _ c.barred_entry.ensures (at 6 c.loop-q.q (λ j. has_bars (entry_of c.args.s c.args.m c.args.k j)) c.requires.known c.loop-q-test.true)

pub loop-q-preserved : goal.loop-q-preserved
loop-q-preserved c =
    let a = c.args in
    elim c.match-barred_entry.branch [
      | in-Some w ↦
          let same : w.in-Some.e ≡ entry_of a.s a.m a.k c.loop-q.q = let some = sym w.in-Some.is ∙ barred c in search rules in
          w.schedule-is ∙ strip_written a.s a.m a.k c.loop-q.q c.loop-q-test.true a.schedule.now same c.loop-q.invariant w.write_entry.ensures
      | in_default w ↦ absurd (w.in_default.not-Some _ (barred c))
    ]
