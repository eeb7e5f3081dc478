-- Each turn adds a record's line to the text (lines_more).
-- Assumes nothing.
use Rattle.std.proofs.Common.{rules, sym, arith, ◌+◌, ◌*◌}
use Prim.Native.Nat.{zero-le}
use Rattle.sheets.proofs.Texts.{lines_more}
use Rattle.sheets.proofs.Writing.{wrote_then, wrote_as}
use Rattle.sheets.proofs.rows.Goals as goal

pub loop-k-preserved : goal.loop-k-preserved
loop-k-preserved c = (
  wrote_as (sym (lines_more c.args.width c.loop-k.k (c.args.first * c.args.width) ((c.args.first + c.loop-k.k) * c.args.width) c.args.table.now (omega arith)))
      (wrote_then zero-le c.loop-k.invariant.0 c.row-end.ensures.0),
  search rules,
)
