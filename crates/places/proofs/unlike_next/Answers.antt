-- Both spans are in the row (AtPlace).
-- Assumes nothing.
use native.Mathlib.Omega.{arith}
use Rattle.plan.proofs.Reading.{bays_most}
use Rattle.places.proofs.AtPlace.{two_spans, next_is}
use Rattle.places.proofs.unlike_next.Goals as goal

pub bounds-s-i : goal.bounds-s-i
bounds-s-i c = omega (arith, c.requires.next, bays_most c.args.survey.now.floor.bytes.now c.args.d)

pub bounds-s-i-2 : goal.bounds-s-i-2
bounds-s-i-2 c = omega (arith, c.requires.next, bays_most c.args.survey.now.floor.bytes.now c.args.d)

pub unlike-requires : goal.unlike-requires
unlike-requires c = two_spans c.args.survey.now.floor.accepted c.spans_along-s.ensures c.requires

pub returns : goal.returns
returns c = next_is c.args.survey.now.floor.accepted c.spans_along-s.ensures c.requires c.unlike.ensures
