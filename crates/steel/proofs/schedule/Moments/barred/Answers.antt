-- After k turns the first k spans have all their bars. A span without ends the walk.
-- Assumes nothing.
use mathlib.Core.Bool.{false}
use mathlib.Core.Path.{◌≡◌, sym, ◌∙◌}
use native.Mathlib.Omega.{arith}
use Rattle.numbers.proofs.Tests.{none, more, found}
use Rattle.tables.specs.Places.{record_count}
use Rattle.steel.specs.Schedule.{all_barred}
use Rattle.steel.proofs.Laid.{barred_span, framed}
use Rattle.steel.proofs.schedule.Moments.barred.Goals as goal

pub loop-k-init : goal.loop-k-init
loop-k-init c = none false _

pub span_barred-requires : goal.span_barred-requires
span_barred-requires c = let m = c.args.self.now in
    framed m.floor.bytes.now m.floor.accepted m.clear (rw m.counted at c.loop-k-test.true) c.span.ensures

pub returns-then-not-span_barred : goal.returns-then-not-span_barred
unfolding all_barred
returns-then-not-span_barred c = let m = c.args.self.now in
    sym (found false _ _ _ (rw m.counted at c.loop-k-test.true) (sym (barred_span _ _ c.span.ensures m.shared c.span_barred.ensures) ∙ c.if-not-span_barred.true))

pub loop-k-preserved : goal.loop-k-preserved
loop-k-preserved c =
    more false _ _ c.loop-k.invariant (sym (barred_span _ _ c.span.ensures c.args.self.now.shared c.span_barred.ensures) ∙ c.if-not-span_barred.false)

pub returns : goal.returns
unfolding all_barred
returns c = let m = c.args.self.now in
    let e : c.loop-k.k ≡ record_count m.floor.bytes.now = omega (arith, m.counted) in
    sym (rw e at c.loop-k.invariant)
