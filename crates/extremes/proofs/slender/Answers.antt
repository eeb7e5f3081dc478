-- The spans of the two directions, twice as long as one another (Panels).
-- Assumes nothing.
use Rattle.plan.specs.declared.ways.Way.TheVariants.{X, Y}
use Rattle.lines.proofs.Slabs.{bays_of_lem}
use Rattle.extremes.proofs.Panels.{spans_in, first_in, first_apart, slender_is}
use Rattle.extremes.proofs.slender.Goals as goal

pub first-requires : goal.first-requires
first-requires c = let v = c.args.survey.now.floor in spans_in _ v.accepted X c.spans_along-x.ensures (bays_of_lem _ v.shared X).0

pub first-requires-2 : goal.first-requires-2
first-requires-2 c = let v = c.args.survey.now.floor in spans_in _ v.accepted Y c.spans_along-y.ensures (bays_of_lem _ v.shared Y).0

pub apart-requires-clause-a_in : goal.apart-requires-clause-a_in
apart-requires-clause-a_in c = let v = c.args.survey.now.floor in
    first_in (spans_in _ v.accepted X c.spans_along-x.ensures (bays_of_lem _ v.shared X).0) c.first.ensures

pub apart-requires-clause-b_in : goal.apart-requires-clause-b_in
apart-requires-clause-b_in c = let v = c.args.survey.now.floor in
    first_in (spans_in _ v.accepted Y c.spans_along-y.ensures (bays_of_lem _ v.shared Y).0) c.first-2.ensures

pub returns : goal.returns
returns c = let v = c.args.survey.now.floor in
    slender_is _ v.accepted v.shared c.spans_along-x.ensures c.spans_along-y.ensures (first_apart 2 _ _ c.first.ensures c.first-2.ensures c.apart.ensures)
