-- What 4 asks of each direction.
-- Assumes nothing.
use Rattle.plan.specs.declared.ways.Way.TheVariants.{X, Y}
use Rattle.verdict.proofs.Sum.{spans_of}
use Rattle.clear.proofs.broken_without_alpha.Goals as goal

pub uneven-x-requires : goal.uneven-x-requires
uneven-x-requires c = spans_of c.args.survey.now.floor X c.spans_along.ensures

pub uneven-y-requires : goal.uneven-y-requires
uneven-y-requires c = spans_of c.args.survey.now.floor Y c.spans_along-2.ensures
