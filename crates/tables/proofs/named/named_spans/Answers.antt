-- The branch taken says of which kind the change is, and each kind decides alone (Naming).
-- Assumes nothing.
use Prim.Native.Nat.{◌+◌}
use mathlib.Core.Bool.{◌||◌}
use mathlib.Core.Path.{◌≡◌, sym, ap, ◌∙◌}
use lib.Dec.{eqb}
use borrow.Author.Tests.{eq-eqb, ne_eqb}
use Rattle.tables.specs.Named.{whole_if}
use Rattle.tables.proofs.Naming.{at_loads, at_own_span, at_span_across, at_own_line, at_line_across, at_rest}
use Rattle.tables.proofs.named.named_spans.Goals as goal
use Rattle.tables.proofs.named.named_spans.Goals.{then-l-index, else-l-index}

pub returns-then-kind-eq-LOADS : goal.returns-then-kind-eq-LOADS
returns-then-kind-eq-LOADS c = sym (at_loads _ _ _ _ _ c.if-kind-eq-LOADS.true)

pub returns-then-kind-span_kind : goal.returns-then-kind-span_kind
returns-then-kind-span_kind c = sym (at_own_span _ _ _ _ _ (c.if-kind-span_kind.true ∙ c.span_kind.ensures))

pub returns-then-kind-span_kind-2 : goal.returns-then-kind-span_kind-2
returns-then-kind-span_kind-2 c = let a = c.args in
    let test : c.if-l-index.whole_if ≡ (eqb a.l a.named.index || eqb a.l (a.named.index + 1)) =
    elim c.if-l-index.branch [
      | then-l-index w ↦ w.whole_if-is ∙ eq-eqb _ _ w.if-l-index.true ∙ rw (eq-eqb _ _ w.if-l-index.true)
      | else-l-index w ↦ rw (ne_eqb _ _ w.if-l-index.false) w.whole_if-is
    ] in
    c.whole_if.ensures ∙ ap (λ b. whole_if b a.n) test ∙ sym (at_span_across _ _ _ _ _ (cc))

pub returns-then-kind-line_kind : goal.returns-then-kind-line_kind
returns-then-kind-line_kind c = c.whole_if-then-kind-line_kind.ensures ∙ sym (at_own_line _ _ _ _ _ (c.if-kind-line_kind.true ∙ c.line_kind.ensures))

pub returns-then-kind-line_kind-2 : goal.returns-then-kind-line_kind-2
returns-then-kind-line_kind-2 c = c.end_span.ensures ∙ sym (at_line_across _ _ _ _ _ (cc))

pub returns : goal.returns
returns c = sym (at_rest _ _ _ _ _
    (λ e. c.if-kind-eq-LOADS.false e)
    (λ e. c.if-kind-span_kind.false (cc))
    (λ e. c.if-kind-span_kind-2.false (cc))
    (λ e. c.if-kind-line_kind.false (cc))
    (λ e. c.if-kind-line_kind-2.false (cc)))
