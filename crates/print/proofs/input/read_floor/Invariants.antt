-- The bytes that stand for what was read leave room for a read behind them.
-- Assumes nothing.
use Rattle.std.proofs.Common.{◌≡◌, ◌≤◌, length}
use Rattle.print.proofs.Reading.{SoFar}
use Rattle.print.proofs.input.read_floor.Given as goal

abbrev pub invariant-loop : goal.invariant-loop
invariant-loop g l = (l.n ≤ 3599) × (length l.bytes ≡ length l.fn.bytes) × SoFar (g.R.Read.remaining l.fn.input) (g.R.Read.remaining l.input) l.bytes l.n
