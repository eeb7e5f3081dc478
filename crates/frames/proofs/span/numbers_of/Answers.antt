-- The part of the table that the record is, copied whole.
-- Assumes nothing.
use Prim.Native.Nat.{◌*◌}
use mathlib.Core.Path.{refl, ◌∙◌}
use native.Mathlib.Omega.{arith}
use Rattle.frames.proofs.Records.{part_of}
use Rattle.frames.proofs.span.numbers_of.Goals as goal

pub returns : goal.returns
returns c = c.write_at.ensures ∙ part_of _ c.args.table.now (c.args.k * 16) refl (omega (arith, c.requires.room))
