-- Each callee's equation in turn, in the range of the line and its beam (Slabs).
-- Assumes nothing.
use Rattle.lines.proofs.Slabs.{line_at, line_asked, beam_asked, line_is}
use Rattle.lines.proofs.survey.Survey.line_alpha.Goals as goal

pub frame_width-width-requires : goal.frame_width-width-requires
frame_width-width-requires c = line_asked (line_at c.args.self.now (rw c.across.ensures at c.spans_along-s.ensures) c.requires)
    (rw c.plan-plan.ensures.0 at c.last_line.ensures.0) c.outer_line-outer.ensures c.pick-column.ensures c.low_side.ensures

pub alpha-requires : goal.alpha-requires
alpha-requires c = let p = line_at c.args.self.now (rw c.across.ensures at c.spans_along-s.ensures) c.requires in
    (rw (c.of.ensures.0, c.of.ensures.1) (beam_asked p (rw c.plan-plan.ensures.0 at c.beam_width-b.ensures) (rw c.plan-plan.ensures.0 at c.beam_depth-h.ensures)), c.frame_width-width.ensures.1)

pub returns : goal.returns
returns c = let p = line_at c.args.self.now (rw c.across.ensures at c.spans_along-s.ensures) c.requires in (
  line_is p (rw c.plan-plan.ensures.0 at c.last_line.ensures.0) c.outer_line-outer.ensures c.pick-column.ensures c.low_side.ensures
      c.frame_width-width.ensures.0 (rw c.plan-plan.ensures.0 at c.beam_width-b.ensures) (rw c.plan-plan.ensures.0 at c.beam_depth-h.ensures)
      (rw (c.of.ensures.0, c.of.ensures.1) at c.alpha.ensures.0),
  c.alpha.ensures.1,
)
