-- Refused with the floor's number, or the panel decides and its least thickness is answered.
-- Assumes nothing.
use Rattle.std.proofs.lemmas.Result.{err_from_is_err_and}
use Rattle.answers.specs.declared.Refusal.TheVariants.{NoPanel}
use Rattle.verdict.specs.Answers.{panel_of}
use Rattle.verdict.proofs.Query.{floor_refuses, no_panel, panel_there, in_panel, query_refused, query_answered}
use Rattle.verdict.proofs.panel.Goals as goal

pub returns-in_err-accept : goal.returns-in_err-accept
unfolding panel_of
returns-in_err-accept c =
    let told = err_from_is_err_and c.from_residual.result c.from_residual.ensures.1 in
    rw (told.1, told.2) (query_refused _ _ (floor_refuses _ _ _ _ c.in_err-accept.ensures))

pub returns-then-not-has_panel : goal.returns-then-not-has_panel
unfolding panel_of
returns-then-not-has_panel c = query_refused NoPanel _ (no_panel _ _ _ c.in_ok-accept.ensures c.if-not-has_panel.ensures)

pub least_of-requires : goal.least_of-requires
least_of-requires c = in_panel _ (panel_there _ _ _ c.in_ok-accept.ensures c.if-not-has_panel.ensures)

pub returns : goal.returns
unfolding panel_of
returns c = query_answered (panel_there _ _ _ c.in_ok-accept.ensures c.if-not-has_panel.ensures) c.least_of.ensures
