-- Each callee's equation in turn, in the range of the beam across the end.
-- Assumes nothing.
use Rattle.spans.specs.Record.{outer_part}
use Rattle.spans.proofs.record.outer_part.Goals as goal

pub edge_torsion-torsion-requires : goal.edge_torsion-torsion-requires
unfolding outer_part
edge_torsion-torsion-requires c = rw (c.of.ensures.0, c.of.ensures.1) c.requires.beam

pub returns : goal.returns
unfolding outer_part
returns c = ((cc), c.outer_negative.ensures.2)
