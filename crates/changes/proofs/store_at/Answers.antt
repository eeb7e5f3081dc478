-- The loop's invariant: the first j bytes are pasted, and the length stays.
-- Assumes nothing.
use borrow.Author.Rules.{rules}
use mathlib.Core.Path.{refl}
use lib.ListN.{length-set}
use lib.Seq.{paste-zero}
use native.Mathlib.Omega.{arith}
use Rattle.changes.proofs.Copy.{stored_more, stored_all}
use Rattle.changes.proofs.store_at.Goals as goal

pub loop-j-init : goal.loop-j-init
loop-j-init c = (paste-zero c.args.dst.now c.args.at c.args.src.now, refl)

pub loop-j-preserved : goal.loop-j-preserved
loop-j-preserved c = (stored_more _ _ _ _ _ c.loop-j.invariant.0 (omega arith) (search rules), simp length-set c.loop-j.invariant.1)

pub returns : goal.returns
returns c = stored_all _ _ _ _ _ c.loop-j.invariant.0 (omega arith) (omega arith)
