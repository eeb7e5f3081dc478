-- Each callee's equation in turn.
-- Assumes nothing.
use borrow.Author.Rules.{rules}
use Rattle.spans.specs.Record.{between_strips}
use Rattle.spans.proofs.record.between_strips.Statement.{statement}
use Rattle.spans.proofs.record.between_strips.Tie as tie

pub between_strips_spec : {M : Type 1} → statement M
unfolding between_strips
between_strips_spec =
    tie.close
    (tie.spec
    (λ c κs. search rules)
    (λ c κs. search rules)
    (λ c κs. search rules)
    (λ c. cc))
