-- 16 and 15 (Scheduled), or the moments stand, there is room, and the rest is tried.
-- Assumes nothing.
use Prim.Native.Nat.{ℕ}
use mathlib.Core.List.{List}
use mathlib.Core.Path.{◌≡◌, ap, ◌∙◌}
use Rattle.lines.specs.declared.survey.Survey.{Survey}
use Rattle.lines.specs.declared.survey.Lines.{Lines}
use Rattle.lines.proofs.Slabs.{sized_of}
use Rattle.tables.specs.Places.{record_count, records_of}
use Rattle.tables.proofs.Numbered.{bayed, counted}
use Rattle.steel.proofs.Scheduled.{sixteen, fifteen, has_room}
use Rattle.steel.proofs.schedule.judge.Goals as goal

pub record_count-count-requires : goal.record_count-count-requires
record_count-count-requires c = bayed (sized_of _ c.of-lines.result.survey.floor.shared)

same : (l : Lines) {s : Survey} {f : List ℕ} → l.survey ≡ s → s.floor.bytes.now ≡ f → l.survey.floor.bytes.now ≡ f
same l e is = ap (λ (s : Survey). s.floor.bytes.now) e ∙ is

records : (l : Lines) {count : ℕ} → count ≡ records_of l.survey.floor.slab.bays → count ≡ record_count l.survey.floor.bytes.now
records l e = counted (sized_of _ l.survey.floor.shared) e

pub returns-then-not-clear : goal.returns-then-not-clear
returns-then-not-clear c = sixteen _ _ (same c.of-lines.result c.of-lines.ensures c.of.ensures) c.requires.accepted c.broken-sum.ensures.0 (records c.of-lines.result c.record_count-count.ensures.0) c.if-not-clear.true

pub returns-then-not-room : goal.returns-then-not-room
returns-then-not-room c = fifteen _ _ (same c.of-lines.result c.of-lines.ensures c.of.ensures) c.requires.accepted c.broken-sum.ensures.0 (records c.of-lines.result c.record_count-count.ensures.0) c.if-not-clear.false c.if-not-room.true

pub fill-requires-clause-counted : goal.fill-requires-clause-counted
fill-requires-clause-counted c = records c.of-lines.result c.record_count-count.ensures.0

pub fill-requires-clause-room : goal.fill-requires-clause-room
fill-requires-clause-room c = has_room _ _ (same c.of-lines.result c.of-lines.ensures c.of.ensures) c.requires.accepted c.broken-sum.ensures.0 (records c.of-lines.result c.record_count-count.ensures.0) c.if-not-room.false
