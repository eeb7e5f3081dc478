-- Each turn lists its place or passes it by.
-- Assumes nothing.
use mathlib.Core.Path.{sym, ◌∙◌}
use native.Mathlib.Omega.{arith}
use borrow.Author.Rules.{rules}
use Rattle.broken.proofs.Tests.{bays_some, extent_most, at_place}
use Rattle.broken.proofs.Laid.{found_turn, missed_turn, none, next}
use Rattle.broken.proofs.Walk.{row_done}
use Rattle.broken.proofs.list_row.Goals as goal
use Rattle.broken.proofs.list_row.Goals.{then-broken_at, else-broken_at}

pub extent-last-requires : goal.extent-last-requires
extent-last-requires c = bays_some c.args.lines.now.survey.floor

pub loop-i-init : goal.loop-i-init
loop-i-init c = (none _ _ _, omega arith)

pub broken_at-requires : goal.broken_at-requires
broken_at-requires c = at_place c.args.lines.now.survey.floor c.requires c.extent-last.ensures (search rules)

pub note-requires : goal.note-requires
note-requires c = record { most = omega (arith, c.loop-i.invariant, extent_most c.args.lines.now.survey.floor c.args.limit c.args.d c.extent-last.ensures, c.requires.most) }

pub overflow_add-m : goal.overflow_add-m
overflow_add-m c = omega (arith, c.loop-i.invariant, extent_most c.args.lines.now.survey.floor c.args.limit c.args.d c.extent-last.ensures, c.requires.most)

pub loop-i-preserved : goal.loop-i-preserved
loop-i-preserved c =
    let l = c.loop-i in
    let e = c.broken_at.ensures in
    elim c.if-broken_at.branch [
      | then-broken_at w ↦
          let q = found_turn _ _ (sym e ∙ w.if-broken_at.true) (w.places-is ∙ w.note.ensures) w.m-is in
          (next l.i _ l.invariant.0 q.0, omega (arith, q.1, l.invariant.1))
      | else-broken_at w ↦
          let q = missed_turn _ _ (sym e ∙ w.if-broken_at.false) w.places-is w.m-is in
          (next l.i _ l.invariant.0 q.0, omega (arith, q.1, l.invariant.1))
    ]

pub returns : goal.returns
returns c = let l = c.loop-i in
    let o = c.args.lines.now.survey.floor in
    let e = c.extent-last.ensures in (
      row_done o c.args.limit c.args.d e l.i c.args.j l.auto.i-end c.loop-i-test.false l.invariant.0,
      omega (arith, l.invariant, l.auto, extent_most o c.args.limit c.args.d e),
    )
