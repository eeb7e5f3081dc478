-- Refused with the floor's number, or the floor is accepted and its places are listed.
-- Assumes nothing.
use native.Mathlib.Omega.{arith}
use Rattle.std.proofs.lemmas.Result.{err_from_is_err_and}
use Rattle.answers.proofs.Refusals.{positive}
use Rattle.broken.proofs.Answers.{floor_refuses, refused_is}
use Rattle.broken.proofs.places.Goals as goal

pub returns-in_err-accept : goal.returns-in_err-accept
returns-in_err-accept c =
    let told = err_from_is_err_and c.from_residual.result c.from_residual.ensures.1 in
    let e = c.in_err-accept.ensures in
    rw (told.1, told.2) (refused_is _ _ (floor_refuses _ _ e (λ z. omega (arith, positive c.in_err-accept.field-0.0, z))) (λ z. omega (arith, positive c.in_err-accept.field-0.0, z)))
