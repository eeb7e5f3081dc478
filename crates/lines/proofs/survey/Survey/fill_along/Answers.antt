-- The loop's invariant: α of the lines passed is stored, and the other places are as they were.
-- Assumes nothing.
use mathlib.Core.Logic.{inl}
use mathlib.Core.Path.{◌∙◌}
use native.Mathlib.Omega.{arith}
use lib.ListN.{length-set}
use Rattle.plan.proofs.Reading.{bays_most}
use Rattle.plan.specs.Ways.{across}
use Rattle.lines.proofs.Filled.{one_more, untouched, same_else, filled}
use Rattle.lines.proofs.survey.Survey.fill_along.Goals as goal

pub bounds-a-l : goal.bounds-a-l
bounds-a-l c = omega (arith, bays_most c.args.self.now.floor.bytes.now (across c.args.d), c.loop-l-test.true, c.requires.inside)

pub loop-l-preserved : goal.loop-l-preserved
loop-l-preserved c = let p = c.loop-l in
    let i = bays_most c.args.self.now.floor.bytes.now (across c.args.d) in
    let t = c.loop-l-test.true in (
      length-set p.a p.l _ ∙ p.invariant.0,
      one_more _ _ p.l p.a p.invariant.1 (omega (arith, i, t, c.requires.inside, p.invariant.0)) c.line_alpha.ensures.0,
      untouched _ p.l c.args.a.now p.a _ p.auto.l p.invariant.2,
      inl (omega (arith, t)),
    )

pub overflow_add-l-end : goal.overflow_add-l-end
overflow_add-l-end c = omega (arith, bays_most c.args.self.now.floor.bytes.now (across c.args.d), c.requires.inside)

pub returns : goal.returns
returns c = let p = c.loop-l in
    let t = c.loop-l-test.false in (
      filled c.args.self.now.floor.accepted c.requires.inside (λ l r h. p.invariant.1 l r (omega (arith, h, t))),
      same_else _ _ p.l c.args.a.now _ p.invariant.3 p.invariant.2,
      p.invariant.0,
    )
