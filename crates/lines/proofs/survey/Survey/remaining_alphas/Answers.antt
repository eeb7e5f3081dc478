-- The rows of the first panel's lines, filled on.
-- Assumes nothing.
use native.Mathlib.Omega.{arith}
use Rattle.plan.specs.declared.ways.Way.TheVariants.{X, Y}
use Rattle.lines.proofs.Slabs.{bays_of_lem, some_lines}
use Rattle.lines.proofs.Filled.{both_alphas, joined}
use Rattle.lines.proofs.survey.Survey.remaining_alphas.Goals as goal

pub fill_along-requires : goal.fill_along-requires
fill_along-requires c = record { inside = omega (arith, (bays_of_lem _ c.args.self.now.floor.shared X).1); a_len = c.requires.near.rows.thirteen X }

pub fill_along-requires-2 : goal.fill_along-requires-2
fill_along-requires-2 c = record { inside = omega (arith, (bays_of_lem _ c.args.self.now.floor.shared Y).1); a_len = c.requires.near.rows.thirteen Y }

pub returns : goal.returns
returns c = let v = c.args.self.now.floor in
    let n = c.requires.near in
    let x = c.fill_along.ensures in
    let y = c.fill_along-2.ensures in
    both_alphas (bays_of_lem _ v.shared X).1 (bays_of_lem _ v.shared Y).1
    (joined (some_lines _ v.accepted v.shared X) n.known.x n.rest_x x.0 x.1) (joined (some_lines _ v.accepted v.shared Y) n.known.y n.rest_y y.0 y.1)
