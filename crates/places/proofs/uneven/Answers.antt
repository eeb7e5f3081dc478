-- The loop stops at the first two neighbours that are unlike.
-- Assumes nothing.
use mathlib.Core.Bool.{true}
use mathlib.Core.Path.{sym, ◌∙◌}
use native.Mathlib.Omega.{arith}
use Rattle.numbers.proofs.Tests.{none, more, found, done}
use Rattle.places.proofs.AtPlace.{bays_in, neighbours, uneven_is}
use Rattle.places.proofs.uneven.Goals as goal

pub overflow_sub-last : goal.overflow_sub-last
overflow_sub-last c = omega (arith, bays_in c.requires)

pub loop-k-init : goal.loop-k-init
loop-k-init c = none true _

pub bounds-s-k : goal.bounds-s-k
bounds-s-k c = omega (arith, c.loop-k-test.true, bays_in c.requires)

pub bounds-s-k-in-loop-k : goal.bounds-s-k-in-loop-k
bounds-s-k-in-loop-k c = omega (arith, c.loop-k-test.true, bays_in c.requires)

pub unlike-requires : goal.unlike-requires
unlike-requires c = neighbours c.requires c.loop-k-test.true

pub returns-then-unlike : goal.returns-then-unlike
returns-then-unlike c = rw (uneven_is c.requires) (sym (found true _ _ _ c.loop-k-test.true (sym c.unlike.ensures ∙ c.if-unlike.true)))

pub loop-k-preserved : goal.loop-k-preserved
loop-k-preserved c = more true _ _ c.loop-k.invariant (sym c.unlike.ensures ∙ c.if-unlike.false)

pub returns : goal.returns
returns c = rw (uneven_is c.requires) (sym (done true _ _ _ c.loop-k.auto.k-end c.loop-k-test.false c.loop-k.invariant))
