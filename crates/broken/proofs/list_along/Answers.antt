-- Each turn lists a row.
-- Assumes nothing.
use native.Mathlib.Omega.{arith}
use borrow.Author.Rules.{rules}
use Rattle.broken.proofs.Tests.{bays_some, extent_most, in_row}
use Rattle.broken.proofs.Laid.{none, next}
use Rattle.broken.proofs.Walk.{along_done}
use Rattle.broken.proofs.list_along.Goals as goal

pub extent-last-requires : goal.extent-last-requires
extent-last-requires c = bays_some c.args.lines.now.survey.floor

pub loop-j-init : goal.loop-j-init
loop-j-init c = (none _ _ _, omega arith)

pub list_row-m-requires : goal.list_row-m-requires
list_row-m-requires c = in_row c.args.lines.now.survey.floor c.requires c.args.limit c.args.d c.extent-last.ensures (search rules) c.loop-j.invariant.1

pub loop-j-preserved : goal.loop-j-preserved
loop-j-preserved c = let l = c.loop-j in
    let r = c.list_row-m.ensures in
    (next l.j _ l.invariant.0 r.0, omega (arith, r.1, l.invariant.1))

pub returns : goal.returns
returns c = let l = c.loop-j in
    let o = c.args.lines.now.survey.floor in
    let e = c.extent-last.ensures in (
      along_done o c.args.limit c.args.d e l.j l.auto.j-end c.loop-j-test.false l.invariant.0,
      omega (arith, l.invariant, l.auto, extent_most o c.args.limit c.args.d e),
    )
