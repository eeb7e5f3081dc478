-- The loop's invariant: the records of the spans passed are written, and nothing else.
-- Assumes nothing.
use Prim.Native.Nat.{◌≤◌}
use mathlib.Core.Path.{◌≡◌, sym, ◌∙◌}
use native.Mathlib.Nat.{sub_self}
use native.Mathlib.Omega.{arith}
use borrow.Author.Rules.{rules}
use Rattle.numbers.specs.Records.{every}
use Rattle.numbers.proofs.Bounded.{fits, ◌⊕◌}
use Rattle.numbers.proofs.Written.{from_none}
use Rattle.tables.specs.Width.{record_width}
use Rattle.frames.proofs.Spans.{line_few, spans_few, on_line, first_is, line_worked, at_span, next_span}
use Rattle.frames.proofs.write_spans.Goals as goal

pub line_first-first-requires : goal.line_first-first-requires
line_first-first-requires c = on_line _ _ _ _ _ _ _ c.requires

pub bounds-alphas-l : goal.bounds-alphas-l
bounds-alphas-l c = omega (arith, line_few _ _ _ _ _ _ _ c.requires)

pub line_work-work-requires : goal.line_work-work-requires
line_work-work-requires c = line_worked _ _ _ _ _ _ _ c.requires c.line_view-line.ensures

pub loop-s-init : goal.loop-s-init
loop-s-init c = rw sub_self (sym (from_none record_width every _ _ _))

pub overflow_add-first : goal.overflow_add-first
overflow_add-first c = let s : c.loop-s.s ≤ 12 = omega (arith, spans_few _ _ _ _ _ _ _ c.requires) in
    fits (c.line_first-first.ensures.1 ⊕ s) tt

pub write_span-requires : goal.write_span-requires
write_span-requires c = let p = c.requires in
    at_span _ _ _ _ _ _ _ p (first_is _ _ _ _ _ _ _ p c.line_first-first.ensures.0) c.line_view-line.ensures c.line_work-work.ensures (search rules) _
    c.loop-s.auto.table

pub loop-s-preserved : goal.loop-s-preserved
loop-s-preserved c = let p = c.requires in
    c.write_span.ensures ∙ next_span _ _ _ _ _ _ _ p _ (first_is _ _ _ _ _ _ _ p c.line_first-first.ensures.0) c.loop-s.auto.s c.loop-s.invariant

pub returns : goal.returns
returns c = let e : c.loop-s.s ≡ c.args.spans.to = omega (arith, c.requires.order) in
    c.loop-s.invariant ∙ rw e
