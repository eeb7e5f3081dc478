-- The loop's invariant: the least and the most of the values passed.
-- Assumes nothing.
use mathlib.Core.Path.{◌≡◌, refl}
use lib.ListN.{length}
use native.Mathlib.Omega.{arith}
use Rattle.numbers.specs.Extremes.{most_of, least_of}
use Rattle.numbers.proofs.Extremes.{most_more, least_more}
use Rattle.extremes.specs.Extremes.{ends_of}
use Rattle.extremes.proofs.ends_of.Goals as goal

pub loop-v-init : goal.loop-v-init
unfolding most_of least_of
loop-v-init c = (refl, refl)

pub loop-v-preserved : goal.loop-v-preserved
loop-v-preserved c = let p = c.loop-v in
    (rw (least_more p.v-index _, ← p.invariant.0) c.min-least.ensures, rw (most_more p.v-index _, ← p.invariant.1) c.max-most.ensures)

pub returns : goal.returns
unfolding ends_of
returns c = let p = c.loop-v in
    let e : p.v-index ≡ length c.args.values.now = omega (arith, p.auto.v-index-end, c.loop-v-test.false) in
    rw (p.invariant.0, p.invariant.1, e)
