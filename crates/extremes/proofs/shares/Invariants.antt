-- The loop's invariant: p or q of the bays passed is stored.
-- Assumes nothing.
use Prim.Native.Nat.{ℕ, ◌<◌}
use mathlib.Core.Path.{◌≡◌}
use lib.ListN.{length, get_or}
use Rattle.extremes.specs.Extremes.{share_of}
use Rattle.extremes.proofs.shares.Given as goal

abbrev pub invariant-loop-k : goal.invariant-loop-k
invariant-loop-k l = (length l.p ≡ 13) × ((i : ℕ) → i < l.k → get_or l.p i 0 ≡ share_of l.lines.survey.floor.bytes.now l.fn.d i)
