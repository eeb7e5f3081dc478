-- Past the end a byte reads 0, as the definition's default does.
-- Assumes nothing.
use mathlib.Core.Path.{sym}
use lib.ListN.{get_or-eq_default}
use Rattle.plan.proofs.fields.byte.Goals as goal

pub returns-else-at-f : goal.returns-else-at-f
returns-else-at-f c = sym (get_or-eq_default c.args.f.now 0 c.if-at-f.false)
