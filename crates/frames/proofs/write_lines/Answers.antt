-- The loop's invariant: the named records of the lines passed are written, and nothing else.
-- Assumes nothing.
use Prim.Native.Nat.{◌+◌}
use mathlib.Core.Path.{◌≡◌, ◌∙◌}
use native.Mathlib.Omega.{arith}
use Rattle.plan.specs.Ways.{across}
use Rattle.plan.specs.Plan.{bays, last_line}
use Rattle.plan.proofs.Reading.{bays_most}
use Rattle.tables.proofs.Runs.{no_line, next_line}
use Rattle.frames.proofs.Frames.{last_is, at_line}
use Rattle.frames.proofs.write_lines.Goals as goal

pub overflow_add-l-end : goal.overflow_add-l-end
overflow_add-l-end c = let f = c.args.floor.bytes.now in
    omega (arith, last_is _ _ _ _ _ _ c.args.d c.requires c.across.ensures c.along-last.ensures, bays_most f (across c.args.d))

pub loop-l-init : goal.loop-l-init
loop-l-init c = let f = c.args.floor.bytes.now in no_line (bays f) (last_line f) _ _ _ _ c.args.d

pub write_line-requires : goal.write_line-requires
write_line-requires c =
    at_line _ _ _ _ _ _ _ c.requires _ c.loop-l.auto.table (omega (arith, last_is _ _ _ _ _ _ c.args.d c.requires c.across.ensures c.along-last.ensures))

pub loop-l-preserved : goal.loop-l-preserved
loop-l-preserved c = let f = c.args.floor.bytes.now in
    c.write_line.ensures ∙ next_line (bays f) (last_line f) _ _ _ _ c.args.d c.loop-l.l c.loop-l.invariant

-- every line is passed
pub returns : goal.returns
returns c = let e : c.loop-l.l ≡ c.along-last.result + 1 = omega arith in
    c.loop-l.invariant ∙ rw (e, last_is _ _ _ _ _ _ c.args.d c.requires c.across.ensures c.along-last.ensures)
