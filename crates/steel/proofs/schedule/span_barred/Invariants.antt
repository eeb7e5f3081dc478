-- After q turns the first q strips have their bars.
-- Assumes nothing.
use mathlib.Core.Bool.{true}
use mathlib.Core.Path.{◌≡◌}
use Rattle.numbers.specs.Tests.{all}
use Rattle.steel.specs.Strips.{entry_of, has_bars}
use Rattle.steel.proofs.schedule.span_barred.Given as goal

abbrev pub invariant-loop-q : goal.invariant-loop-q
invariant-loop-q l = all l.q (λ j. has_bars (entry_of l.s l.m l.k j)) ≡ true
