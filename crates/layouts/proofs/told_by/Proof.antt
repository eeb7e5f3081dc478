-- By cases of the three tests.
-- Assumes nothing.
use Rattle.numbers.proofs.Cases.{cases}
use Rattle.layouts.specs.Layouts.{told_by}
use Rattle.layouts.proofs.told_by.Statement.{statement}
use Rattle.layouts.proofs.told_by.Tie as tie

pub told_by_spec : {M : Type 1} → statement M
unfolding told_by
told_by_spec =
    tie.close
    (tie.spec
    (λ c. search cases)
    (λ c. search cases)
    (λ c. search cases)
    (λ c. search cases))
