-- The spans named of a line are its records named, and where none is named nothing is to be written (Frames).
-- Assumes nothing.
use mathlib.Core.Path.{◌∙◌}
use Rattle.frames.proofs.Frames.{naming, at_spans, line_is, line_left}
use Rattle.frames.proofs.write_line.Goals as goal

pub named_spans-spans-requires : goal.named_spans-spans-requires
named_spans-spans-requires c = naming _ _ _ _ _ _ _ _ c.requires c.along.ensures

pub write_spans-requires : goal.write_spans-requires
write_spans-requires c = at_spans _ _ _ _ _ _ _ _ c.requires c.along.ensures c.named_spans-spans.ensures

pub returns-then-spans : goal.returns-then-spans
returns-then-spans c = c.write_spans.ensures ∙ line_is _ _ _ _ _ _ _ _ c.requires c.along.ensures c.named_spans-spans.ensures

pub returns-else-spans : goal.returns-else-spans
returns-else-spans c = line_left _ _ _ _ _ _ _ _ c.requires c.along.ensures c.named_spans-spans.ensures c.if-spans.false
