-- By cases of the line: line 0 has no span on its low side.
-- Assumes nothing.
use borrow.Author.Tests.{eq-eqb, ne_eqb}
use Rattle.lines.specs.Lines.{below}
use Rattle.lines.proofs.line.below.Goals as goal

pub returns-then-l-eq0 : goal.returns-then-l-eq0
unfolding below
returns-then-l-eq0 c = rw (eq-eqb _ _ c.if-l-eq0.true)

pub returns-else-l-eq0 : goal.returns-else-l-eq0
unfolding below
returns-else-l-eq0 c = rw (ne_eqb _ _ c.if-l-eq0.false) (cc)
