-- Each callee's equation in turn; bays and columns are those of the slab at hand (AtHand).
-- Assumes nothing.
use Rattle.lines.proofs.Slabs.{sized_of}
use Rattle.spans.proofs.AtHand.{line_is}
use Rattle.spans.proofs.view.line_view.Goals as goal

pub invariant_of-plan : goal.invariant_of-plan
invariant_of-plan c = record { sized = sized_of _ c.requires }

pub below-requires : goal.below-requires
below-requires c = sized_of _ c.requires

pub returns : goal.returns
returns c = line_is _ c.requires _ _ c.across-over.ensures c.along.ensures c.outer_line.ensures c.below.ensures c.span.ensures
    c.pick.ensures c.pick-2.ensures c.beam_width.ensures c.beam_depth.ensures
