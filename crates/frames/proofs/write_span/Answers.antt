-- The view that is read is the span's (Spans), so its record is the one that belongs here.
-- Assumes nothing.
use mathlib.Core.Path.{◌∙◌}
use Rattle.frames.proofs.Spans.{slabbed, record_worked, record_is}
use Rattle.frames.proofs.write_span.Goals as goal

pub span_view-v-requires : goal.span_view-v-requires
span_view-v-requires c = slabbed _ _ _ _ _ _ _ _ c.requires

pub record-requires : goal.record-requires
record-requires c = rw c.span_view-v.ensures (record_worked _ _ _ _ _ _ _ _ c.requires)

pub returns : goal.returns
returns c = c.write_record.ensures
    ∙ rw (record_is _ _ _ _ _ _ _ _ c.requires c.span_view-v.ensures c.«record».ensures)
