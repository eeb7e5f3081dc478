-- The ways of Judging.
-- Assumes nothing.
use Rattle.std.proofs.lemmas.Result.{err_from_is_err_and}
use Rattle.changes.proofs.Judging.{held_refused, not_fitting, may_place, is_placed, copy_refused, copy_passes}
use Rattle.changes.proofs.judge.Goals as goal

pub returns-in_err-accept : goal.returns-in_err-accept
returns-in_err-accept c =
    let told = err_from_is_err_and c.from_residual.result c.from_residual.ensures.1 in
    rw (told.1, told.2) (held_refused _ _ _ c.in_err-accept.ensures)

pub returns-then-not-change_ok : goal.returns-then-not-change_ok
returns-then-not-change_ok c = not_fitting _ _ c.in_ok-accept.ensures c.of-plan.ensures c.of-plan.result.sized c.change_ok.ensures c.if-not-change_ok.true

pub change_place-place-requires : goal.change_place-place-requires
change_place-place-requires c = may_place _ _ c.in_ok-accept.ensures c.of-plan.ensures c.of-plan.result.sized c.change_ok.ensures c.if-not-change_ok.false

pub judge_copy-requires : goal.judge_copy-requires
judge_copy-requires c =
    is_placed _ _ c.in_ok-accept.ensures c.of-plan.ensures c.of-plan.result.sized c.change_ok.ensures c.if-not-change_ok.false c.change_place-place.ensures

pub returns-in_err-judge_copy : goal.returns-in_err-judge_copy
returns-in_err-judge_copy c =
    let told = err_from_is_err_and c.from_residual-in_err-judge_copy.result c.from_residual-in_err-judge_copy.ensures.1 in
    rw (told.1, told.2)
    (copy_refused _ _ c.in_ok-accept.ensures c.of-plan.ensures c.of-plan.result.sized c.change_ok.ensures c.if-not-change_ok.false _ c.in_err-judge_copy.ensures)

pub returns : goal.returns
returns c =
    copy_passes _ _ c.in_ok-accept.ensures c.of-plan.ensures c.of-plan.result.sized c.change_ok.ensures c.if-not-change_ok.false
    c.change_place-place.ensures c.in_ok-judge_copy.ensures
