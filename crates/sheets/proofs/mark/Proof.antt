-- A byte stored is a text of one byte.
-- Assumes nothing.
use native.Mathlib.Omega.{arith}
use Rattle.sheets.proofs.Writing.{wrote_byte}
use borrow.Author.Rules.{rules}
use Rattle.sheets.proofs.mark.Statement.{statement}
use Rattle.sheets.proofs.mark.Tie as tie

pub mark_spec : {M : Type 1} → statement M
mark_spec =
    tie.close
    (tie.spec
    (λ c. search rules)
    (λ c. search rules)
    (λ c. search rules)
    (λ c. wrote_byte c.args.out.now c.args.at c.args.b (omega arith)))
