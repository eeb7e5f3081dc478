-- A number, the further numbers and a newline are a line (line_first).
-- Assumes nothing.
use Rattle.std.proofs.Common.{rules, refl, arith}
use Rattle.sheets.proofs.Texts.{line_first}
use Rattle.sheets.proofs.Writing.{wrote_then, wrote_as, wrote_mark}
use Rattle.sheets.proofs.row.Goals as goal

pub returns : goal.returns
returns c = (
  wrote_as (line_first c.args.numbers.now (omega arith))
      (wrote_then (omega arith) (wrote_then (omega arith) c.number-first.ensures.0 c.further-end.ensures.0) (wrote_mark 10 c.mark.ensures refl)),
  search rules,
)
