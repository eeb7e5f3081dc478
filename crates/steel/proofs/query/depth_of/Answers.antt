-- By cases of d.
-- Assumes nothing.
use borrow.Author.Tests.{eq-eqb, ne_eqb}
use Rattle.steel.specs.Query.{depth_of}
use Rattle.steel.proofs.query.depth_of.Goals as goal

pub returns-then-q-eq0 : goal.returns-then-q-eq0
unfolding depth_of
returns-then-q-eq0 c = rw (eq-eqb _ _ c.if-q-eq0.true)

pub returns-else-q-eq0 : goal.returns-else-q-eq0
unfolding depth_of
returns-else-q-eq0 c = rw (ne_eqb _ _ c.if-q-eq0.false)
