-- Refused with the floor's number, or the floor is accepted and the rest is tried.
-- Assumes nothing.
use Rattle.std.proofs.lemmas.Result.{err_from_is_err_and}
use Rattle.steel.proofs.Scheduled.{refused_floor}
use Rattle.steel.proofs.schedule.schedule.Goals as goal

pub returns-in_err-accept : goal.returns-in_err-accept
returns-in_err-accept c =
    let told = err_from_is_err_and c.from_residual.result c.from_residual.ensures.1 in
    rw (told.1, told.2) (refused_floor _ _ _ c.in_err-accept.ensures)
