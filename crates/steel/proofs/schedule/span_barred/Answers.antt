-- After q turns the first q strips have their bars. A strip without ends the walk.
-- Assumes nothing.
use mathlib.Core.Bool.{false}
use mathlib.Core.Path.{sym, ◌∙◌}
use Rattle.numbers.proofs.Tests.{none, more, found}
use Rattle.steel.specs.Strips.{strip_moment}
use Rattle.steel.proofs.Laid.{told}
use Rattle.steel.proofs.schedule.span_barred.Goals as goal

pub loop-q-init : goal.loop-q-init
loop-q-init c = none false _

pub barred_entry-requires : goal.barred_entry-requires
unfolding strip_moment
barred_entry-requires c = let r = c.requires in
    record { strip = r.strip; width = r.width; six = c.loop-q-test.true; moment_is = rw c.moment_number.ensures.0 }

pub returns-then-is_none : goal.returns-then-is_none
returns-then-is_none c = sym (found false _ _ _ c.loop-q-test.true (sym (told _ c.barred_entry.ensures) ∙ c.if-is_none.ensures))

pub loop-q-preserved : goal.loop-q-preserved
loop-q-preserved c = more false _ _ c.loop-q.invariant (sym (told _ c.barred_entry.ensures) ∙ c.if-is_none.ensures)
