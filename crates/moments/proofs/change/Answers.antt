-- Refused, or stored, judged afresh and rewritten (Ways).
-- Assumes nothing.
use mathlib.Core.Path.{refl}
use Rattle.std.proofs.lemmas.Result.{err_from_is_err_and}
use Rattle.answers.proofs.Refusals.{not_zero}
use Rattle.changes.proofs.Given.{number_ruled, stores}
use Rattle.moments.specs.Lent.{lent}
use Rattle.moments.proofs.Room.{changing_stands, changing_decides}
use Rattle.moments.proofs.Ways.{changed_refused, changed_takes, changed_settling, changed_taken, remade_by}
use Rattle.moments.proofs.change.Goals as goal

pub returns-in_err-place : goal.returns-in_err-place
returns-in_err-place c = let p = err_from_is_err_and c.from_residual.result c.from_residual.ensures.1 in
    rw (p.1, p.2) (changed_refused _ _ _ _ (changing_stands _ _ (lent _ _) (number_ruled _ _ c.in_err-place.ensures) (not_zero _)))

pub returns-in_err-room_for : goal.returns-in_err-room_for
returns-in_err-room_for c = let p = err_from_is_err_and c.from_residual-in_err-room_for.result c.from_residual-in_err-room_for.ensures.1 in
    rw (p.1, p.2) (changed_refused _ _ _ _ (changing_decides _ _ (lent _ _) (number_ruled _ _ c.in_ok-place.ensures) c.in_err-room_for.ensures))

pub verdict-before-requires : goal.verdict-before-requires
verdict-before-requires c =
    record { accepted = (changed_takes _ _ (lent _ _) (changing_decides _ _ (lent _ _) (number_ruled _ _ c.in_ok-place.ensures) c.in_ok-room_for.ensures)).held }

pub store-requires : goal.store-requires
store-requires c = stores _ _ c.in_ok-place.ensures refl

pub settle-requires : goal.settle-requires
settle-requires c =
    changed_settling _ _ (lent _ _) (changing_decides _ _ (lent _ _) (number_ruled _ _ c.in_ok-place.ensures) c.in_ok-room_for.ensures)
    c.store.ensures c.u16_at.ensures c.u16_at-2.ensures

pub returns : goal.returns
returns c = let settle = c.settle.ensures in
    changed_taken _ _ _ (changing_decides _ _ (lent _ _) (number_ruled _ _ c.in_ok-place.ensures) c.in_ok-room_for.ensures) c.store.ensures settle.0
    (remade_by _ _ _ c.verdict-before.ensures.0 c.store.ensures c.u16_at.ensures c.u16_at-2.ensures settle.1)
