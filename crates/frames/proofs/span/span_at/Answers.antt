-- The place that is found is the record's, what is read there is its line's view, and what is worked out of it is the span (Records).
-- Assumes nothing.
use mathlib.Core.Path.{refl, sym}
use Rattle.lines.proofs.Slabs.{sized_of}
use Rattle.spans.proofs.AtHand.{column_is, line_is}
use Rattle.frames.proofs.Records.{at_record, numbered, roomy, sides, span_is}
use Rattle.frames.proofs.span.span_at.Goals as goal

pub place_of-p-requires : goal.place_of-p-requires
place_of-p-requires c = numbered _ _ _ _ (at_record c.args.floor.accepted c.args.floor.shared c.requires)

pub below-low-requires : goal.below-low-requires
below-low-requires c = sized_of _ c.args.floor.shared

pub numbers_of-requires : goal.numbers_of-requires
numbers_of-requires c = roomy _ _ _ _ (at_record c.args.floor.accepted c.args.floor.shared c.requires)

pub column_strip_width-requires : goal.column_strip_width-requires
column_strip_width-requires c =
    let e = c.args.floor.shared in
    sides _ _ _ _ (at_record c.args.floor.accepted e c.requires) c.place_of-p.ensures (line_is _ e _ _ c.across-over.ensures c.along.ensures c.outer_line-outer.ensures c.below-low.ensures
    (rw c.plan-plan.ensures.0 at c.span-high.ensures)
    (sym (column_is _ e c.place_of-p.result.way)) c.pick-column.ensures (rw c.plan-plan.ensures.0 at c.beam_width.ensures) refl)

pub frame_width-requires : goal.frame_width-requires
frame_width-requires c =
    let e = c.args.floor.shared in
    sides _ _ _ _ (at_record c.args.floor.accepted e c.requires) c.place_of-p.ensures (line_is _ e _ _ c.across-over.ensures c.along.ensures c.outer_line-outer.ensures c.below-low.ensures
    (rw c.plan-plan.ensures.0 at c.span-high.ensures)
    (sym (column_is _ e c.place_of-p.result.way)) c.pick-column.ensures (rw c.plan-plan.ensures.0 at c.beam_width.ensures) refl)

pub returns : goal.returns
returns c =
    let e = c.args.floor.shared in
    span_is _ _ _ _ (at_record c.args.floor.accepted e c.requires) c.place_of-p.ensures (line_is _ e _ _ c.across-over.ensures c.along.ensures c.outer_line-outer.ensures c.below-low.ensures
    (rw c.plan-plan.ensures.0 at c.span-high.ensures)
    (sym (column_is _ e c.place_of-p.result.way)) c.pick-column.ensures (rw c.plan-plan.ensures.0 at c.beam_width.ensures) refl)
    (rw c.plan-plan.ensures.0 at c.span-l1.ensures) c.numbers_of.ensures c.column_strip_width.ensures.0 c.frame_width.ensures.0
