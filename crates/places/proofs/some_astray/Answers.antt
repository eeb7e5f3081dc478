-- Some row has a column that is off its place (numbers' any_below).
-- Assumes nothing.
use Prim.Native.Nat.{◌+◌}
use Rattle.std.proofs.Common.{rules, refl, ◌∙◌}
use Rattle.numbers.specs.Tests.{some}
use Rattle.numbers.proofs.Ranges.{any_below}
use Rattle.plan.specs.declared.ways.Way.TheVariants.{X}
use Rattle.plan.specs.Plan.{bays}
use Rattle.limits.specs.Limits.{some_pair, astray, astray_column}
use Rattle.places.proofs.some_astray.Goals as goal

pub returns : goal.returns
unfolding astray some_pair
returns c = let f = c.args.plan.now.bytes.now in
    any_below _ _ (λ k. some (bays f X + 1) (λ i. astray_column f i k)) (λ a r f h. search rules) (λ k b h. search rules) _ _ refl
    c.any.ensures.runs
    ∙ rw c.requires.sized.y
