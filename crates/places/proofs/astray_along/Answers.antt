-- The column is where one of the direction's spans starts or ends (AtPlace).
-- Assumes nothing.
use Rattle.places.proofs.AtPlace.{column_end, along_is}
use Rattle.places.proofs.astray_along.Goals as goal

pub shorter_at-shorter-requires : goal.shorter_at-shorter-requires
shorter_at-shorter-requires c = let v = c.args.survey.now.floor in
    column_end v.accepted v.shared c.requires c.args.d c.spans_along-s.ensures c.pick.ensures c.pick-2.ensures

pub returns : goal.returns
returns c = let v = c.args.survey.now.floor in
    along_is v.accepted v.shared c.requires c.args.d c.spans_along-s.ensures c.pick.ensures c.pick-2.ensures c.shorter_at-shorter.ensures
    (rw c.plan.ensures.0 at c.offset.ensures) c.exceeds.ensures
