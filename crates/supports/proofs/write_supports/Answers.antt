-- The loop's invariant: the supports passed are written, and nothing else.
-- Assumes nothing.
use Prim.Native.Nat.{◌+◌}
use mathlib.Core.Path.{◌≡◌, sym, ◌∙◌}
use native.Mathlib.Nat.{sub_self}
use native.Mathlib.Omega.{arith}
use borrow.Author.Rules.{rules}
use Rattle.numbers.specs.Records.{every}
use Rattle.numbers.proofs.Written.{from_none}
use Rattle.supports.specs.Governing.{support_width}
use Rattle.supports.proofs.Lines.{next_support, support_room, line_supports}
use Rattle.supports.proofs.write_supports.Goals as goal

pub loop-s-init : goal.loop-s-init
loop-s-init c = rw sub_self (sym (from_none support_width every _ _ _))

pub write_record-requires : goal.write_record-requires
write_record-requires c =
    let room = (support_room c.requires {s = c.loop-s.s} _ c.support_first-start.ensures.0 (search rules) c.loop-s.auto.governing).room in
    (omega arith, omega (arith, room))

pub loop-s-preserved : goal.loop-s-preserved
loop-s-preserved c = c.write_record.ensures ∙ next_support _ _ _ _ _ _ _ c.loop-s.auto.s c.loop-s.invariant c.support.ensures

-- every support is passed
pub returns : goal.returns
returns c =
    let e : c.loop-s.s ≡ c.args.spans.to + 1 = omega arith in
    c.loop-s.invariant
    ∙ rw e (line_supports c.requires c.line_first-first.ensures.0 c.along-n.ensures c.support_first-start.ensures.0)
