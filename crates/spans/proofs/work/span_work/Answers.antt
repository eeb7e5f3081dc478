-- Each callee's equation in turn, in the ranges that a workable span keeps (Worked).
-- Assumes nothing.
use Rattle.spans.proofs.Worked.{loaded, stiffened, proportioned, work_is}
use Rattle.spans.proofs.work.span_work.Goals as goal

pub clear_length-requires : goal.clear_length-requires
clear_length-requires c = c.requires.view.spanned

pub static_moment-moment-requires : goal.static_moment-moment-requires
static_moment-moment-requires c = loaded c.requires c.clear_length.ensures.1

pub stiffness_ratio-a-requires : goal.stiffness_ratio-a-requires
stiffness_ratio-a-requires c = stiffened c.requires

pub span_ratio-r-requires : goal.span_ratio-r-requires
span_ratio-r-requires c = proportioned c.requires

pub column_strip_width-strip-requires : goal.column_strip_width-strip-requires
column_strip_width-strip-requires c = c.requires.view.line.spans

pub returns : goal.returns
returns c = let h = c.requires in
    work_is h c.clear_length.ensures.0 c.static_moment-moment.ensures.0 c.stiffness_ratio-a.ensures.0
    c.span_ratio-r.ensures.0 c.column_strip_width-strip.ensures.0
