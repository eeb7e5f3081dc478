-- The loop's invariant: p or q of the bays passed is stored.
-- Assumes nothing.
use Prim.Native.Nat.{◌<◌}
use native.Mathlib.Omega.{arith}
use Rattle.std.proofs.Common.{length, ◌∙◌, below_more, length-set, get_or-set_other, get_or-set_same, ◌≢◌}
use Rattle.plan.specs.Plan.{last_line}
use Rattle.lines.proofs.Filled.{beside}
use Rattle.extremes.proofs.Panels.{bay_of, share_is}
use Rattle.extremes.proofs.shares.Goals as goal

pub share_at-requires : goal.share_at-requires
share_at-requires c = let v = c.args.lines.now.survey.floor in
    let h : c.loop-k.k < last_line v.bytes.now c.args.d = rw (← c.plan.ensures.0, ← c.last_line-k-end.ensures.0) c.loop-k-test.true in
    bay_of v.accepted (beside c.alphas_along-a.ensures h) (rw c.across.ensures at c.spans_along-s.ensures) h

pub loop-k-preserved : goal.loop-k-preserved
loop-k-preserved c = let v = c.args.lines.now.survey.floor in
    let p = c.loop-k in
    let h : p.k < last_line v.bytes.now c.args.d = rw (← c.plan.ensures.0, ← c.last_line-k-end.ensures.0) c.loop-k-test.true in
    let e = share_is v.accepted (beside c.alphas_along-a.ensures h) (rw c.across.ensures at c.spans_along-s.ensures) h c.share_at.ensures.0 in (
      length-set p.p p.k _ ∙ p.invariant.0,
      below_more _ _
          (λ k q. let ne : k ≢ p.k = omega arith in rw get_or-set_other (p.invariant.1 k q))
          (let lt : p.k < length p.p = omega (arith, p.invariant.0, c.loop-k-test.true, c.last_line-k-end.ensures.1) in rw get_or-set_same e),
    )
