-- The clear spans and α at hand are the panel's own; each callee's equation in turn.
-- Assumes nothing.
use mathlib.Core.Path.{refl}
use Rattle.lines.proofs.Slabs.{panel_few}
use Rattle.lines.proofs.Filled.{pair_in, clearing_x, clearing_y, view_is}
use Rattle.lines.proofs.survey.Survey.panel_view.Goals as goal

pub clear_span-x-requires : goal.clear_span-x-requires
clear_span-x-requires c = let v = c.args.self.now.floor in clearing_x _ _ _ v.accepted v.shared c.requires c.spans_along.ensures

pub clear_span-y-requires : goal.clear_span-y-requires
clear_span-y-requires c = let v = c.args.self.now.floor in clearing_y _ _ _ v.accepted v.shared c.requires c.spans_along-2.ensures

pub pair_alpha-along_x-requires : goal.pair_alpha-along_x-requires
pair_alpha-along_x-requires c = pair_in c.requires.alphas.x c.args.self.now.floor.accepted c.requires.panel.y_bay

pub pair_alpha-along_y-requires : goal.pair_alpha-along_y-requires
pair_alpha-along_y-requires c = pair_in c.requires.alphas.y c.args.self.now.floor.accepted c.requires.panel.x_bay

pub outer_panel-outside-requires : goal.outer_panel-outside-requires
outer_panel-outside-requires c = panel_few c.requires.panel

pub weak_edge-weak-requires : goal.weak_edge-weak-requires
weak_edge-weak-requires c = panel_few c.requires.panel

pub returns : goal.returns
returns c = let v = c.args.self.now.floor in
    view_is _ _ _ v.accepted v.shared c.requires c.outer_panel-outside.ensures
    c.weak_edge-weak.ensures c.spans_along.ensures c.spans_along-2.ensures c.clear_span-x.ensures c.clear_span-y.ensures
    c.pair_alpha-along_x.ensures.0 c.pair_alpha-along_y.ensures.0 c.is_everywhere.ensures c.place.ensures refl
    c.min.ensures c.max.ensures
