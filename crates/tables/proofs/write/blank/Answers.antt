-- After k turns the first k records are zeros (written_more: one record more).
-- Assumes nothing.
use mathlib.Core.Path.{◌≡◌, sym}
use native.Mathlib.Omega.{arith}
use Rattle.numbers.specs.Records.{every}
use Rattle.numbers.proofs.Written.{from_none, written_more}
use Rattle.tables.specs.Width.{record_width}
use Rattle.tables.specs.Blank.{zeros, blanked}
use Rattle.tables.proofs.write.blank.Goals as goal

pub loop-k-init : goal.loop-k-init
loop-k-init c = sym (from_none record_width every zeros 0 _)

pub loop-k-preserved : goal.loop-k-preserved
loop-k-preserved c = cc (written_more record_width every zeros c.loop-k.k c.args.table.now)

pub returns : goal.returns
unfolding blanked
returns c = let e : c.loop-k.k ≡ c.args.n = omega arith in
    cc
