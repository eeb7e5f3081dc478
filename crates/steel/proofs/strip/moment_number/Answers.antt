-- By cases of the strip: a section's five numbers start one after Mo.
-- Assumes nothing.
use native.Mathlib.Omega.{arith}
use borrow.Author.Tests.{eq-eqb, ne_eqb}
use Rattle.steel.specs.Strips.{moment_number}
use Rattle.steel.proofs.strip.moment_number.Goals as goal

pub returns-then-q-eq0 : goal.returns-then-q-eq0
unfolding moment_number
returns-then-q-eq0 c = (rw (eq-eqb _ _ c.if-q-eq0.true) (omega arith), omega (arith, c.requires))

pub returns-else-q-eq0 : goal.returns-else-q-eq0
unfolding moment_number
returns-else-q-eq0 c = (rw (ne_eqb _ _ c.if-q-eq0.false) (omega arith), omega (arith, c.requires))
