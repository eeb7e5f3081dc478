-- Each read puts its bytes behind those that came before (read_then).
-- Assumes nothing.
use borrow.Author.Rules.{rules}
use Rattle.sheets.proofs.Growing.{read_then}
use Rattle.sheets.proofs.read.read_full.Goals as goal

pub loop-done-preserved : goal.loop-done-preserved
loop-done-preserved g c = (
  search rules,
  search rules,
  read_then _ _ _ c.loop-done.bytes c.read.new.buf c.loop-done.done _ c.in_ok-n.n c.loop-done.invariant.1 c.in_ok-n.ensures.bound.0 c.loop-done.invariant.2 c.in_ok-n.ensures.bytes.0,
)
