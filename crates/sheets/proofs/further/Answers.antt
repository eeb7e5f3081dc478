-- Each turn adds a space and a number's decimal to the text (further_more).
-- Assumes nothing.
use Rattle.std.proofs.Common.{rules, refl, sym, arith}
use Rattle.sheets.proofs.Texts.{further_more}
use Rattle.sheets.proofs.Writing.{wrote_then, wrote_as, wrote_mark}
use Rattle.sheets.proofs.further.Goals as goal

pub loop-n-preserved : goal.loop-n-preserved
loop-n-preserved c = (
  wrote_as (sym (further_more c.args.numbers.now c.loop-n.n-index (omega arith)))
      (wrote_then (omega arith) c.loop-n.invariant.0 (wrote_then (omega arith) (wrote_mark 32 c.mark-next.ensures refl) c.number-end.ensures.0)),
  search rules,
)
