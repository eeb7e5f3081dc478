-- The loop's invariant: the supports next to a named span of the lines passed are written, and nothing else.
-- Assumes nothing.
use Prim.Native.Nat.{◌+◌}
use mathlib.Core.Path.{◌≡◌, ◌∙◌}
use native.Mathlib.Omega.{arith}
use Rattle.tables.proofs.Runs.{no_line, next_line}
use Rattle.supports.specs.Governing.{last_of, supports_of}
use Rattle.supports.proofs.Lines.{last_is}
use Rattle.supports.proofs.write_lines.Goals as goal

pub loop-l-init : goal.loop-l-init
loop-l-init c = let a = c.args in no_line (supports_of a.b) (last_of a.b) _ _ _ _ a.d

pub loop-l-preserved : goal.loop-l-preserved
loop-l-preserved c = let a = c.args in
    c.write_line.ensures ∙ next_line (supports_of a.b) (last_of a.b) _ _ _ _ a.d c.loop-l.l c.loop-l.invariant

-- every line is passed
pub returns : goal.returns
returns c = let a = c.args in
    let e : c.loop-l.l ≡ c.along-last.result + 1 = omega arith in
    c.loop-l.invariant ∙ rw (e, last_is _ a.d c.across.ensures c.along-last.ensures)
