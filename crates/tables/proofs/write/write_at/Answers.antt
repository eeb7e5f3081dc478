-- After n turns the first n values are pasted in (paste-suc: one number more), and all of them after the last.
-- Assumes nothing.
use Prim.Native.Nat.{◌+◌, ◌<◌}
use mathlib.Core.Path.{refl}
use native.Mathlib.Omega.{arith}
use native.Mathlib.Numerals.{add-one}
use borrow.Author.Rules.{rules}
use lib.ListN.{length, length-set}
use lib.Seq.{paste-zero, paste-suc}
use Rattle.tables.proofs.write.write_at.Goals as goal

pub loop-n-init : goal.loop-n-init
loop-n-init c = (paste-zero c.args.slice.now c.args.at c.args.values.now, refl)

pub loop-n-preserved : goal.loop-n-preserved
loop-n-preserved c = let a = c.args in
    let l = c.loop-n in
    let h : a.at + l.n < length a.slice.now = omega arith in
    let hv : l.n < length a.values.now = search rules in
    (rw (l.invariant.0, add-one) (paste-suc a.slice.now a.at a.values.now l.n 0 h hv), simp length-set l.invariant.1)
