-- By cases of the two tests.
-- Assumes nothing.
use Rattle.numbers.proofs.Cases.{cases}
use Rattle.floor.specs.Refusal.{length_ok}
use Rattle.floor.proofs.refusal.length_ok.Statement.{statement}
use Rattle.floor.proofs.refusal.length_ok.Tie as tie

pub length_ok_spec : {M : Type 1} → statement M
unfolding length_ok
length_ok_spec =
    tie.close
    (tie.spec
    (λ c. search cases)
    (λ c. search cases))
