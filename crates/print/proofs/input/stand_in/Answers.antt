-- Each way by the definition's own test.
-- Assumes nothing.
use native.Mathlib.Omega.{arith}
use borrow.Author.Tests.{lt-ltb, le-ltb}
use Rattle.print.specs.Input.{stand_in}
use Rattle.print.proofs.input.stand_in.Goals as goal

ruleset tests = (lt-ltb, le-ltb)

pub returns-then-n-lt-LONG : goal.returns-then-n-lt-LONG
unfolding stand_in
returns-then-n-lt-LONG c = (search tests, omega arith)

pub returns-else-n-lt-LONG : goal.returns-else-n-lt-LONG
unfolding stand_in
returns-else-n-lt-LONG c = (search tests, omega arith)
