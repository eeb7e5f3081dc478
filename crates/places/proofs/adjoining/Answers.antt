-- The loop's invariant: the shorter spans of the columns passed are stored.
-- Assumes nothing.
use mathlib.Core.Path.{◌∙◌}
use native.Mathlib.Omega.{arith}
use lib.ListN.{length-set}
use Rattle.lines.proofs.Filled.{one_more}
use Rattle.places.proofs.AtPlace.{end_of, adjoining_of}
use Rattle.places.proofs.adjoining.Goals as goal

pub shorter_at-requires : goal.shorter_at-requires
shorter_at-requires c =
    end_of (record { accepted = c.args.survey.now.floor.accepted; spans = c.spans_along-s.ensures; number = rw c.plan.ensures.0 at c.bays_along-n.ensures.0 })
    (omega (arith, c.loop-k-test.true))

pub loop-k-preserved : goal.loop-k-preserved
loop-k-preserved c = let p = c.loop-k in
    (length-set p.a p.k _ ∙ p.invariant.0, one_more _ 0 p.k p.a p.invariant.1 (omega (arith, c.bays_along-n.ensures.1, c.loop-k-test.true, p.invariant.0)) c.shorter_at.ensures)

pub returns : goal.returns
returns c = let p = c.loop-k in
    adjoining_of
    (record { accepted = c.args.survey.now.floor.accepted; spans = c.spans_along-s.ensures; number = rw c.plan.ensures.0 at c.bays_along-n.ensures.0 })
    (λ k h q. p.invariant.1 k h (omega (arith, q, c.loop-k-test.false)))
