-- Refused with the floor's number, or its limits decide.
-- Assumes nothing.
use mathlib.Core.Path.{◌∙◌}
use Rattle.std.proofs.lemmas.Result.{err_from_is_err_and}
use Rattle.clear.specs.Answers.{clear_of}
use Rattle.clear.proofs.Answers.{yes_byte}
use Rattle.verdict.proofs.Query.{query_refused, query_answered}
use Rattle.clear.proofs.clear.Goals as goal

pub returns-in_err-accept : goal.returns-in_err-accept
unfolding clear_of
returns-in_err-accept c =
    let told = err_from_is_err_and c.from_residual.result c.from_residual.ensures.1 in
    rw (told.1, told.2) (query_refused _ _ c.in_err-accept.ensures)

pub returns : goal.returns
unfolding clear_of
returns c = query_answered c.in_ok-accept.ensures (c.from.ensures ∙ yes_byte c.is_clear.ensures)
