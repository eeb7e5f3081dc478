-- Some column of the row is off its place (numbers' any_below).
-- Assumes nothing.
use Rattle.std.proofs.Common.{rules, refl, ◌∙◌}
use Rattle.numbers.proofs.Ranges.{any_below}
use Rattle.limits.specs.Limits.{astray_column}
use Rattle.places.proofs.astray_in_row.Goals as goal

pub returns : goal.returns
returns c =
    any_below _ _ (λ k. astray_column c.args.plan.now.bytes.now k c.args.j) (λ a r f h. search rules) (λ k b h. search rules) _ _ refl
    c.any.ensures.runs
    ∙ rw c.requires.columns.sized.x
