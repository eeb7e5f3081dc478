-- A place's numbers are as many as it is wide, and stand where the places before it end.
-- Assumes nothing.
use native.Mathlib.Omega.{arith}
use Rattle.broken.proofs.Laid.{noted_in, noted_out}
use Rattle.broken.proofs.note.Goals as goal

pub returns-then-at-places : goal.returns-then-at-places
returns-then-at-places c = noted_in _ _ _ c.if-at-places.true (rw (← c.number.ensures.0, ← c.pick.ensures) c.write_at.ensures)

pub returns-else-at-places : goal.returns-else-at-places
returns-else-at-places c = noted_out _ _ _ (λ h. omega (arith, h, c.if-at-places.false))
