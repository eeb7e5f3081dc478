-- 64 by the panel's least thickness, where neither 2 nor 32 is broken.
-- Assumes nothing.
use Rattle.verdict.proofs.Sum.{thin_of}
use Rattle.clear.proofs.first_panel_broken.Goals as goal

pub returns : goal.returns
returns c = rw (← c.slender_at.ensures, ← c.unequal_at.ensures, ← c.either.ensures, c.if-either.false)
    (thin_of _ c.args.survey.now.floor.shared 0 0 c.panel_thickness.ensures.0)
