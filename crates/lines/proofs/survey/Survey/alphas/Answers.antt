-- A row for each direction, of all its lines.
-- Assumes nothing.
use native.Mathlib.Omega.{arith}
use Rattle.plan.specs.declared.ways.Way.TheVariants.{X, Y}
use Rattle.lines.proofs.Slabs.{bays_of_lem}
use Rattle.lines.proofs.Filled.{all_rows}
use Rattle.lines.proofs.survey.Survey.alphas.Goals as goal

pub fill_along-requires-clause-inside : goal.fill_along-requires-clause-inside
fill_along-requires-clause-inside c = omega (arith, (bays_of_lem _ c.args.self.now.floor.shared X).1)

pub fill_along-requires-2-clause-inside : goal.fill_along-requires-2-clause-inside
fill_along-requires-2-clause-inside c = omega (arith, (bays_of_lem _ c.args.self.now.floor.shared Y).1)

pub returns : goal.returns
returns c = let e = c.args.self.now.floor.shared in
    all_rows (bays_of_lem _ e X).1 (bays_of_lem _ e Y).1 c.fill_along.ensures c.fill_along-2.ensures
