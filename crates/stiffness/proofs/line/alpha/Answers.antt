-- With a beam it is the definition's quotient. The bound is the definition's own.
-- Assumes nothing.
use Prim.Native.Nat.{◌≤◌}
use borrow.Author.Tests.{ne_eqb}
use Rattle.numbers.proofs.Bounded.{exactly}
use Rattle.stiffness.specs.Lines.{alpha}
use Rattle.stiffness.proofs.Stiffness.{alpha_most}
use Rattle.stiffness.proofs.line.alpha.Goals as goal

pub returns : goal.returns
unfolding alpha
returns c = exactly (λ a. a ≤ 200000000) (rw (ne_eqb _ _ c.if-b-eq0.false) (cc)) (alpha_most c.args.outer c.requires.0 c.requires.1)
