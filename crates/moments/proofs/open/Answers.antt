-- Refused, or settled as by a change of the loads, which names every record (Ways).
-- Assumes nothing.
use Rattle.std.proofs.lemmas.Result.{err_from_is_err_and}
use Rattle.answers.proofs.Refusals.{not_zero}
use Rattle.moments.specs.Lent.{lent}
use Rattle.moments.specs.Changing.{rewritten, regoverned}
use Rattle.moments.proofs.Room.{opening_stands, opening_decides}
use Rattle.moments.proofs.Ways.{opened_refused, opened_settling, opened_filled}
use Rattle.moments.proofs.«open».Goals as goal

pub returns-in_err-accept : goal.returns-in_err-accept
returns-in_err-accept c = let p = err_from_is_err_and c.from_residual.result c.from_residual.ensures.1 in
    rw (p.1, p.2) (opened_refused _ _ _ (opening_stands _ (lent _ _) c.in_err-accept.ensures (not_zero _)))

pub returns-in_err-room_for : goal.returns-in_err-room_for
returns-in_err-room_for c = let p = err_from_is_err_and c.from_residual-in_err-room_for.result c.from_residual-in_err-room_for.ensures.1 in
    rw (p.1, p.2) (opened_refused _ _ _ (opening_decides _ (lent _ _) c.in_ok-accept.ensures c.in_err-room_for.ensures))

pub settle-requires : goal.settle-requires
settle-requires c = opened_settling _ (lent _ _) (opening_decides _ (lent _ _) c.in_ok-accept.ensures c.in_ok-room_for.ensures)

pub returns : goal.returns
unfolding rewritten regoverned
returns c = let settle = c.settle.ensures in
    opened_filled _ _ (opening_decides _ (lent _ _) c.in_ok-accept.ensures c.in_ok-room_for.ensures) settle.0 settle.1
