-- The record lies in the floor, and stored there it makes the changed floor (Placing).
-- Assumes nothing.
use native.Mathlib.Omega.{arith}
use Rattle.changes.proofs.Placing.{room, stored_changed}
use Rattle.changes.proofs.store.Goals as goal

pub store_at-requires : goal.store_at-requires
store_at-requires c = let p = c.requires in omega (arith, room p, p.fits.full)

pub returns : goal.returns
returns c = stored_changed c.requires c.store_at.ensures
