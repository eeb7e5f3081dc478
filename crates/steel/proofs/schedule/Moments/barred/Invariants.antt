-- After k turns the first k spans have all their bars.
-- Assumes nothing.
use mathlib.Core.Bool.{true}
use mathlib.Core.Path.{◌≡◌}
use Rattle.numbers.specs.Tests.{all}
use Rattle.frames.specs.Spans.{span_at}
use Rattle.steel.specs.Strips.{materials_of, span_barred}
use Rattle.steel.proofs.schedule.Moments.barred.Given as goal

abbrev pub invariant-loop-k : goal.invariant-loop-k
invariant-loop-k l = let f = l.fn.self.floor.bytes.now in all l.k (λ j. span_barred (span_at f j) (materials_of f) j) ≡ true
