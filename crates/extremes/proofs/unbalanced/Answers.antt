-- p and q of the two directions, five times one another (Panels), by cases of the layout.
-- Assumes nothing.
use Rattle.plan.specs.declared.ways.Way.TheVariants.{X, Y}
use Rattle.lines.proofs.Slabs.{bays_of_lem}
use Rattle.extremes.proofs.Panels.{shares_in, first_in, first_apart, beamed, beamless}
use Rattle.extremes.proofs.unbalanced.Goals as goal

pub first-requires : goal.first-requires
first-requires c = let v = c.args.lines.now.survey.floor in shares_in _ v.accepted Y c.shares-q.ensures (bays_of_lem _ v.shared Y).1

pub first-requires-then-is_everywhere : goal.first-requires-then-is_everywhere
first-requires-then-is_everywhere c = let v = c.args.lines.now.survey.floor in shares_in _ v.accepted X c.shares-p.ensures (bays_of_lem _ v.shared X).1

pub apart-requires-clause-a_in : goal.apart-requires-clause-a_in
apart-requires-clause-a_in c = let v = c.args.lines.now.survey.floor in
    first_in (shares_in _ v.accepted Y c.shares-q.ensures (bays_of_lem _ v.shared Y).1) c.first.ensures

pub apart-requires-clause-b_in : goal.apart-requires-clause-b_in
apart-requires-clause-b_in c = let v = c.args.lines.now.survey.floor in
    first_in (shares_in _ v.accepted X c.shares-p.ensures (bays_of_lem _ v.shared X).1) c.first-then-is_everywhere.ensures

pub returns-then-is_everywhere : goal.returns-then-is_everywhere
returns-then-is_everywhere c = let v = c.args.lines.now.survey.floor in
    beamed _ v.accepted v.shared c.is_everywhere.ensures c.if-is_everywhere.true c.shares-p.ensures c.shares-q.ensures
    (first_apart 5 _ _ c.first.ensures c.first-then-is_everywhere.ensures c.apart.ensures)

pub returns-else-is_everywhere : goal.returns-else-is_everywhere
returns-else-is_everywhere c = let v = c.args.lines.now.survey.floor in
    beamless _ v.accepted v.shared c.is_everywhere.ensures c.if-is_everywhere.false
