-- The judged front of the copy is the changed floor (copied_changed), which has the bays of the held floor (Keeps.sized).
-- Assumes nothing.
use native.Mathlib.Omega.{arith}
use lib.Seq.{length-take-le}
use mathlib.Core.Path.{sym, ◌∙◌}
use Rattle.changes.proofs.Placing.{room, short, copied_changed}
use Rattle.changes.proofs.Keeps.{filed, sized}
use Rattle.changes.proofs.judge_copy.Goals as goal

pub store_at-requires : goal.store_at-requires
store_at-requires c = omega (arith, short c.requires)

pub store_at-requires-2 : goal.store_at-requires-2
store_at-requires-2 c = let p = c.requires in omega (arith, short p, room p, p.fits.full)

pub slice_bounds-copy-end : goal.slice_bounds-copy-end
slice_bounds-copy-end c = omega (arith, short c.requires)

pub slice_bounds-accept_values-end : goal.slice_bounds-accept_values-end
slice_bounds-accept_values-end c = sym (length-take-le _ _ (omega (arith, short c.requires)))

pub invariant_of-accept_values : goal.invariant_of-accept_values
invariant_of-accept_values c =
    let p = c.requires in
    rw (copied_changed p _ _ _ c.store_at.ensures c.store_at-2.ensures)
    record { sized = sized _ _ p.held p.fits c.args.plan.now.sized }

pub accept_values-requires : goal.accept_values-requires
accept_values-requires c =
    let p = c.requires in
    rw (copied_changed p _ _ _ c.store_at.ensures c.store_at-2.ensures)
    (filed _ _ p.held p.fits)

pub returns : goal.returns
returns c = c.accept_values.ensures ∙ rw (copied_changed c.requires _ _ _ c.store_at.ensures c.store_at-2.ensures)
