-- Each callee's equation in turn.
-- Assumes nothing.
use native.Mathlib.Omega.{arith}
use Rattle.places.proofs.AtPlace.{column_is, column_few}
use Rattle.places.proofs.astray_at.Goals as goal

pub bounds-x-k : goal.bounds-x-k
bounds-x-k c = omega (arith, column_few c.requires)

pub bounds-y-m : goal.bounds-y-m
bounds-y-m c = omega (arith, column_few c.requires)

pub returns : goal.returns
returns c = column_is c.requires c.offset.ensures c.exceeds.ensures c.offset-2.ensures c.exceeds-2.ensures c.either.ensures
