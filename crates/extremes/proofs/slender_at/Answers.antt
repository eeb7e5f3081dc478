-- Of the panel's two spans one exceeds twice the other, or neither does (Panels).
-- Assumes nothing.
use native.Mathlib.Omega.{arith}
use Rattle.lines.proofs.Slabs.{panel_few}
use Rattle.extremes.proofs.Panels.{values_at, slender_one}
use Rattle.extremes.proofs.slender_at.Goals as goal

pub bounds-x-i : goal.bounds-x-i
bounds-x-i c = omega (arith, (panel_few c.requires).0)

pub bounds-y-j : goal.bounds-y-j
bounds-y-j c = omega (arith, (panel_few c.requires).1)

pub two_apart-requires-clause-x_in : goal.two_apart-requires-clause-x_in
two_apart-requires-clause-x_in c = (values_at c.args.survey.now.floor.accepted c.requires c.spans_along-x.ensures c.spans_along-y.ensures).0

pub two_apart-requires-clause-y_in : goal.two_apart-requires-clause-y_in
two_apart-requires-clause-y_in c = (values_at c.args.survey.now.floor.accepted c.requires c.spans_along-x.ensures c.spans_along-y.ensures).1

pub returns : goal.returns
returns c = slender_one c.args.survey.now.floor.accepted c.requires c.spans_along-x.ensures c.spans_along-y.ensures c.two_apart.ensures
