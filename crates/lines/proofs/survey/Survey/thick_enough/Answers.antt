-- The rules' inequality, at the slab's own thickness, of the panel's view.
-- Assumes nothing.
use Rattle.lines.proofs.Filled.{asked, enough_is, thick_in}
use Rattle.lines.proofs.survey.Survey.thick_enough.Goals as goal

pub enough-requires : goal.enough-requires
enough-requires c = let v = c.args.self.now.floor in
    record { panel_sizes = asked _ _ _ v.accepted v.shared c.requires c.panel_view.ensures; slab_most = thick_in _ _ _ v.accepted v.shared c.requires }

pub returns : goal.returns
returns c = let v = c.args.self.now.floor in
    enough_is _ _ _ v.accepted v.shared c.requires c.panel_view.ensures c.enough.ensures
