-- The sum of what each limit answers (Sum).
-- Assumes nothing.
use Rattle.plan.specs.declared.ways.Way.TheVariants.{X, Y}
use Rattle.verdict.proofs.Sum.{summed, spans_of}
use Rattle.verdict.proofs.broken.Goals as goal

pub uneven-x-requires : goal.uneven-x-requires
uneven-x-requires c = spans_of c.args.lines.now.survey.floor X c.spans_along.ensures

pub uneven-y-requires : goal.uneven-y-requires
uneven-y-requires c = spans_of c.args.lines.now.survey.floor Y c.spans_along-2.ensures

pub returns : goal.returns
returns c = (
  summed _ c.args.lines.now.survey.floor.shared c.few.ensures c.slender.ensures c.uneven-x.ensures c.uneven-y.ensures c.either.ensures c.astray.ensures
      c.heavy.ensures c.unbalanced.ensures c.thin.ensures c.sum_of.ensures.0,
  c.sum_of.ensures.1,
)
