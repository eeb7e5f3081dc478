-- By cases of the strip.
-- Assumes nothing.
use mathlib.Core.Path.{◌∙◌}
use borrow.Author.Tests.{eq-eqb, ne_eqb}
use Rattle.steel.specs.Strips.{strip_width}
use Rattle.steel.proofs.strip.strip_width.Goals as goal

pub returns-then-q-eq0 : goal.returns-then-q-eq0
unfolding strip_width
returns-then-q-eq0 c = c.column_width.ensures ∙ rw (eq-eqb _ _ c.if-q-eq0.true)

pub returns-else-q-eq0 : goal.returns-else-q-eq0
unfolding strip_width
returns-else-q-eq0 c = c.middle_width.ensures ∙ rw (ne_eqb _ _ c.if-q-eq0.false)
