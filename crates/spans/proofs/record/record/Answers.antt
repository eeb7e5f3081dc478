-- Each callee's equation in turn; the sections have what a worked span keeps (Whole), and Mo fits 32 bits.
-- Assumes nothing.
use Rattle.numbers.proofs.Bounded.{fits}
use Rattle.spans.specs.Record.{record_of}
use Rattle.spans.proofs.Whole.{at_low, at_between, at_high}
use Rattle.spans.proofs.record.record.Goals as goal

pub overflow_cast-w : goal.overflow_cast-w
unfolding record_of
overflow_cast-w c = fits c.span_work-w.ensures.1.moment tt

pub end_strips-requires : goal.end_strips-requires
unfolding record_of
end_strips-requires c = rw (c.span_work-w.ensures.0, c.percents_of-p.ensures) (at_low c.requires.view)

pub between_strips-requires : goal.between_strips-requires
unfolding record_of
between_strips-requires c = rw (c.span_work-w.ensures.0, c.percents_of-p.ensures) (at_between c.requires.view)

pub end_strips-requires-2 : goal.end_strips-requires-2
unfolding record_of
end_strips-requires-2 c = rw (c.span_work-w.ensures.0, c.percents_of-p.ensures) (at_high c.requires.view)

pub returns : goal.returns
unfolding record_of
returns c = cc
