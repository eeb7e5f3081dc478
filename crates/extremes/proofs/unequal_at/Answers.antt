-- Of the panel's p and q one exceeds five times the other, or neither does, by cases of the layout (Panels).
-- Assumes nothing.
use Rattle.extremes.proofs.Panels.{bay_of, share_is, unequal_one, bare_one}
use Rattle.extremes.proofs.unequal_at.Goals as goal

pub share_at-p-requires : goal.share_at-p-requires
share_at-p-requires c = let p = c.requires in bay_of c.args.survey.now.floor.accepted p.alphas.x c.spans_along.ensures p.panel.y_bay

pub share_at-q-requires : goal.share_at-q-requires
share_at-q-requires c = let p = c.requires in bay_of c.args.survey.now.floor.accepted p.alphas.y c.spans_along-2.ensures p.panel.x_bay

pub returns-then-is_everywhere : goal.returns-then-is_everywhere
returns-then-is_everywhere c = let p = c.requires in
    let v = c.args.survey.now.floor in
    unequal_one _ v.accepted v.shared c.is_everywhere.ensures _ _ c.if-is_everywhere.true
    (share_is v.accepted p.alphas.x c.spans_along.ensures p.panel.y_bay c.share_at-p.ensures.0)
    (share_is v.accepted p.alphas.y c.spans_along-2.ensures p.panel.x_bay c.share_at-q.ensures.0) c.two_apart.ensures

pub returns-else-is_everywhere : goal.returns-else-is_everywhere
returns-else-is_everywhere c = let v = c.args.survey.now.floor in bare_one _ v.accepted v.shared c.is_everywhere.ensures _ _ c.if-is_everywhere.false
