-- The law of `all` over a range.
-- Assumes nothing.
use Rattle.std.proofs.Common.{rules, refl}
use Rattle.numbers.proofs.Ranges.{all_below}
use Rattle.floor.specs.Refusal.{kind_ok}
use Rattle.floor.proofs.refusal.kind_ok.Goals as goal

pub returns : goal.returns
unfolding kind_ok
returns c = all_below _ _ _ (λ a r f h. search rules) (λ k b h. search rules) _ _ refl c.all.ensures.runs
