-- The walk is left at the first panel that is too thin, or no row has one (AtPlace).
-- Assumes nothing.
use mathlib.Core.Bool.{true, not}
use mathlib.Core.Path.{sym, ap, ◌∙◌}
use native.Mathlib.Omega.{arith}
use Rattle.std.proofs.Common.{rules}
use Rattle.plan.specs.declared.ways.Way.TheVariants.{X}
use Rattle.lines.proofs.Slabs.{bays_of_lem}
use Rattle.lines.proofs.Filled.{stiff_at}
use Rattle.numbers.proofs.Tests.{none, more}
use Rattle.places.proofs.AtPlace.{row_thick, all_thick, one_thin, thin_is}
use Rattle.places.proofs.thin.Goals as goal

pub rows-init : goal.rows-init
rows-init c = (search rules, none true _)

pub panels-init : goal.panels-init
panels-init c = (c.rows.invariant.0, none true _)

pub thick_enough-too_thin-requires : goal.thick_enough-too_thin-requires
thick_enough-too_thin-requires c = let v = c.args.lines.now in
    let b = bays_of_lem _ v.survey.floor.shared X in
    stiff_at v.stiff (omega (arith, b.0, c.panels-test.true)) (omega (arith, b.1, c.rows-test.true))

pub panels-preserved : goal.panels-preserved
panels-preserved c = let thick = ap not c.if-too_thin.false in
    (thick, more true _ _ c.panels.invariant.1 (thin_is _ _ _ c.thick_enough-too_thin.ensures thick))

pub rows-preserved : goal.rows-preserved
rows-preserved c = let l = c.panels in
    let o = c.rows in
    (l.invariant.0, more true _ _ o.invariant.1 (row_thick _ c.args.lines.now.survey.floor.shared o.j (omega (arith, l.auto.i-end, c.panels-test.false)) l.invariant.1))

pub returns-after-rows : goal.returns-after-rows
returns-after-rows c = let o = c.rows in
    o.invariant.0 ∙ sym (all_thick _ c.args.lines.now.survey.floor.shared (omega (arith, o.auto.j-end, c.rows-test.false)) o.invariant.1)

pub returns-then-too_thin : goal.returns-then-too_thin
returns-then-too_thin c = let thin = ap not c.if-too_thin.true in
    thin ∙ sym (one_thin _ c.args.lines.now.survey.floor.shared c.panels-test.true (omega (arith, c.rows-test.true)) (thin_is _ _ _ c.thick_enough-too_thin.ensures thin))
