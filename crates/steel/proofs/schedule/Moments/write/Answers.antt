-- After k turns the records of the first k spans are written (span_written: one more).
-- Assumes nothing.
use mathlib.Core.Path.{◌≡◌, sym}
use native.Mathlib.Omega.{arith}
use borrow.Author.Rules.{rules}
use Rattle.numbers.proofs.Written.{from_none}
use Rattle.tables.specs.Places.{record_count}
use Rattle.bars.specs.Entries.{number_bytes}
use Rattle.numbers.specs.Records.{every}
use Rattle.steel.specs.Schedule.{scheduled}
use Rattle.steel.proofs.Laid.{in_frame, span_written}
use Rattle.steel.proofs.schedule.Moments.write.Goals as goal

pub loop-k-init : goal.loop-k-init
loop-k-init c = sym (from_none number_bytes every _ _ _)

pub write_span-requires : goal.write_span-requires
write_span-requires c = let m = c.args.self.now in
    in_frame m.floor.bytes.now m.floor.accepted m.clear (rw m.counted at c.loop-k-test.true) c.span.ensures c.args.schedule.now _ c.requires m.shared (search rules)

pub loop-k-preserved : goal.loop-k-preserved
loop-k-preserved c = let m = c.args.self.now in
    span_written m.floor.bytes.now c.args.schedule.now c.loop-k.k c.span.ensures m.shared c.loop-k.invariant c.write_span.ensures

pub returns : goal.returns
unfolding scheduled
returns c = let m = c.args.self.now in
    let e : c.loop-k.k ≡ record_count m.floor.bytes.now = omega (arith, m.counted) in
    rw e at c.loop-k.invariant
