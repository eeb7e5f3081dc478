-- The walk that judges has no buffer, so that nothing is written before all have bars.
-- Assumes nothing.
use mathlib.Core.Path.{sym, ◌∙◌}
use native.Mathlib.Omega.{arith}
use Rattle.numbers.proofs.Bounded.{◌⊗◌, #, upto, fits}
use Rattle.tables.proofs.Numbered.{count_most}
use Rattle.steel.proofs.Scheduled.{no_bars, all_good, refused_is, scheduled_is}
use Rattle.steel.proofs.schedule.Moments.lay.Goals as goal

pub returns-then-not-barred : goal.returns-then-not-barred
returns-then-not-barred c = let m = c.args.self.now in
    refused_is _ _ (no_bars _ _ m.floor.accepted m.clear c.requires.room (sym c.barred-barred.ensures ∙ c.if-not-barred.true)) (omega arith)

pub overflow_mul-result : goal.overflow_mul-result
overflow_mul-result c = let m = c.args.self.now in fits (upto 312 (omega (arith, m.counted, count_most m.floor.bytes.now)) ⊗ # 6) tt

pub returns : goal.returns
returns c = let m = c.args.self.now in
    let r = scheduled_is _ _ (all_good _ _ m.floor.accepted m.clear c.requires.room (sym c.barred-barred.ensures ∙ c.if-not-barred.false)) in
    record { answer = rw m.counted r.answer; schedule = c.write.ensures ∙ r.schedule }
