-- Each turn lists the places of a limit, or there are none to list.
-- Assumes nothing.
use native.Mathlib.Omega.{arith}
use Rattle.broken.proofs.Laid.{none, next}
use Rattle.broken.proofs.Walk.{limit_turn, skipped_turn, all_done}
use Rattle.broken.proofs.list_all.Goals as goal
use Rattle.broken.proofs.list_all.Goals.{then-v-number-eq1, else-v-number-eq1}

pub loop-k-init : goal.loop-k-init
loop-k-init c = (none _ _ _, omega arith)

pub loop-k-preserved : goal.loop-k-preserved
loop-k-preserved c =
    let l = c.loop-k in
    let e = c.limit_at-limit.ensures in
    elim c.if-v-number-eq1.branch [
      | then-v-number-eq1 w ↦
          let q = limit_turn _ e w.list_limit-n.ensures w.places-is w.n-is in (next l.k _ l.invariant.0 q.0, omega (arith, q.1, l.invariant.1))
      | else-v-number-eq1 w ↦
          let q = skipped_turn c.args.lines.now.survey.floor c.requires e c.number.ensures.0 w.if-v-number-eq1.false w.places-is w.n-is in
          (next l.k _ l.invariant.0 q.0, omega (arith, q.1, l.invariant.1))
    ]

pub returns : goal.returns
returns c = let l = c.loop-k in (all_done _ l.k l.auto.k-end c.loop-k-test.false l.invariant.0, omega (arith, l.invariant, l.auto))
