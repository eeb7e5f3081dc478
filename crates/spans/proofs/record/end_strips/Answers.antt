-- By cases of the column strip at the end (Ends).
-- Assumes nothing.
use Rattle.spans.proofs.Ends.{even_end, part_end, inner_end}
use Rattle.spans.proofs.record.end_strips.Goals as goal

pub returns-then-code-eq-FULLY_RESTRAINED : goal.returns-then-code-eq-FULLY_RESTRAINED
returns-then-code-eq-FULLY_RESTRAINED c = even_end _ _ _ c.section_total-total.ensures.0 c.if-outer.true c.if-code-eq-FULLY_RESTRAINED.true c.evenly.ensures

pub outer_part-requires : goal.outer_part-requires
outer_part-requires c = record { span = c.requires.span; beam = c.requires.beam }

pub returns-then-outer : goal.returns-then-outer
returns-then-outer c = part_end _ _ _ c.section_total-total.ensures.0 c.if-outer.true c.if-code-eq-FULLY_RESTRAINED.false c.outer_part.ensures.0 c.by_part.ensures

pub returns : goal.returns
returns c = inner_end _ _ _ c.section_total-total.ensures.0 c.if-outer.false c.inner_negative.ensures.0 c.by_part-2.ensures
