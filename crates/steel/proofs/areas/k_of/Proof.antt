-- By cases of fc.
-- Assumes nothing.
use borrow.Author.Rules.{rules}
use Rattle.numbers.proofs.Cases.{cases}
use Rattle.steel.specs.Area.{K}
use Rattle.steel.proofs.areas.k_of.Statement.{statement}
use Rattle.steel.proofs.areas.k_of.Tie as tie

pub k_of_spec : {M : Type 1} → statement M
unfolding K
k_of_spec =
    tie.close
    (tie.spec
    (λ c. search cases)
    (λ c. search cases)
    (λ c. search rules)
    (λ c. search rules)
    (λ c. search cases))
