-- No room, or room for all of them.
-- Assumes nothing.
use mathlib.Core.Path.{ap, ◌∙◌}
use Rattle.lines.specs.declared.survey.Survey.{Survey}
use Rattle.broken.proofs.Answers.{too_short, written}
use Rattle.broken.proofs.list.Goals as goal

pub returns-then-not-has_room : goal.returns-then-not-has_room
returns-then-not-has_room c =
    let same = ap (λ (s : Survey). s.floor.bytes.now) c.of-lines.ensures ∙ c.of.ensures in
    rw (← same) (too_short _ _ c.of-lines.result.survey.floor.accepted c.if-not-has_room.ensures)

pub returns : goal.returns
returns c =
    let same = ap (λ (s : Survey). s.floor.bytes.now) c.of-lines.ensures ∙ c.of.ensures in
    rw (← same) (written _ _ c.of-lines.result.survey.floor.accepted c.if-not-has_room.ensures c.list_all.ensures.0)
