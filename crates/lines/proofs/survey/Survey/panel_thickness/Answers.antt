-- The rules' least thickness of the panel's view.
-- Assumes nothing.
use Rattle.lines.proofs.Filled.{asked, least_is}
use Rattle.lines.proofs.survey.Survey.panel_thickness.Goals as goal

pub least_thickness-requires : goal.least_thickness-requires
least_thickness-requires c = let v = c.args.self.now.floor in asked _ _ _ v.accepted v.shared c.requires c.panel_view.ensures

pub returns : goal.returns
returns c = let v = c.args.self.now.floor in
    let t = c.least_thickness.ensures in
    (least_is _ _ _ v.accepted v.shared c.requires c.panel_view.ensures t.is, t.from, t.most)
