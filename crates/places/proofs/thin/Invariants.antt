-- The loops' invariants: no panel passed is too thin, in the row and in the rows before it. The walk is left at the first that is.
-- Assumes nothing.
use mathlib.Core.Bool.{false}
use mathlib.Core.Path.{◌≡◌}
use Rattle.numbers.specs.Tests.{some}
use Rattle.limits.specs.Limits.{thin_panel}
use Rattle.places.proofs.AtPlace.{thin_row}
use Rattle.places.proofs.thin.Given as goal

abbrev pub invariant-panels : goal.invariant-panels
invariant-panels l = (l.too_thin ≡ false) × (some l.i (λ i. thin_panel l.lines.survey.floor.bytes.now i l.j) ≡ false)

abbrev pub invariant-rows : goal.invariant-rows
invariant-rows l = (l.too_thin ≡ false) × (some l.j (thin_row l.lines.survey.floor.bytes.now) ≡ false)
