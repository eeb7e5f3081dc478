-- Limit by limit, the test of its own.
-- Assumes nothing.
use Rattle.verdict.proofs.Sum.{heavy_is, thin_of}
use Rattle.broken.proofs.Tests.{few_at, place_as, panel_asks, slender_asks, uneven_asks, astray_asks}
use Rattle.broken.proofs.broken_at.Goals as goal

pub slender_at-requires : goal.slender_at-requires
slender_at-requires c = slender_asks c.requires c.in-Slender.is

pub unlike_next-requires : goal.unlike_next-requires
unlike_next-requires c = uneven_asks c.requires c.in-Uneven.is c.pick-in-Uneven.ensures

pub astray_along-requires : goal.astray_along-requires
astray_along-requires c = astray_asks c.requires c.in-Astray.is

pub unequal_at-requires : goal.unequal_at-requires
unequal_at-requires c = panel_asks c.args.lines.now _ (place_as c.requires c.in-Unbalanced.is)

pub panel_thickness-requires : goal.panel_thickness-requires
panel_thickness-requires c = panel_asks c.args.lines.now _ (place_as c.requires c.in-Thin.is)

pub returns-in-Few : goal.returns-in-Few
returns-in-Few c = rw c.in-Few.is (few_at c.args.lines.now.survey.floor _ c.pick.ensures c.few_along.ensures)

pub returns-in-Heavy : goal.returns-in-Heavy
returns-in-Heavy c = rw c.in-Heavy.is (heavy_is _ c.args.lines.now.survey.floor.shared c.heavy.ensures)

pub returns-in-Thin : goal.returns-in-Thin
returns-in-Thin c = rw c.in-Thin.is (thin_of _ c.args.lines.now.survey.floor.shared _ _ c.panel_thickness.ensures.0)
