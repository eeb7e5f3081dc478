-- The law of `all` over a range.
-- Assumes nothing.
use Rattle.std.proofs.Common.{rules, refl}
use Rattle.numbers.proofs.Ranges.{all_below}
use Rattle.layouts.specs.Layouts.{kept_along}
use Rattle.layouts.proofs.kept_along.Goals as goal

pub returns : goal.returns
unfolding kept_along
returns c = rw (← c.asked.ensures.0) (all_below _ _ _ (λ a r f h. search rules) (λ k b h. search rules) _ _ refl c.all.ensures.runs)
