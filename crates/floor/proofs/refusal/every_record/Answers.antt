-- The law of `all` over a range.
-- Assumes nothing.
use Rattle.std.proofs.Common.{rules, ◌∙◌}
use Rattle.numbers.proofs.Ranges.{all_through}
use Rattle.plan.specs.Plan.{start, many}
use Rattle.floor.specs.Refusal.{kind_ok, every_record}
use Rattle.floor.proofs.refusal.every_record.Goals as goal

pub returns : goal.returns
unfolding every_record
returns c =
    all_through _ _
    (λ k. kind_ok c.args.plan.now.bytes.now c.args.check k (start c.args.plan.now.bytes.now k) (many c.args.plan.now.bytes.now k))
    (λ a r f h. search rules) (λ k b h. search rules) _ _ c.new.ensures.start c.new.ensures.exhausted c.all.ensures.runs
    ∙ rw c.new.ensures.end
