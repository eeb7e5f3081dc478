-- The section at an end, by the three cases of its column strip: a fully restrained side, any other side, an end that is no outer end.
-- Assumes nothing.
use Prim.Native.Nat.{ℕ}
use mathlib.Core.Bool.{true, false}
use mathlib.Core.Path.{◌≡◌}
use borrow.Author.Tests.{eq-eqb, ne_eqb}
use Rattle.strips.specs.declared.strip.Strips.{Strips}
use Rattle.strips.specs.EndTable.{section_total}
use Rattle.strips.specs.Strips.{inner_negative, even_strip, column_strip, split}
use Rattle.spans.specs.declared.view.EndView.{EndView}
use Rattle.spans.specs.declared.work.SpanWork.{SpanWork}
use Rattle.spans.specs.Record.{outer_part, end_column, end_strips}

module _ (w : SpanWork) (e : EndView) (percent : ℕ) {total : ℕ} {s : Strips} (et : total ≡ section_total percent w.moment) where
  by_column : {column : ℕ} → column ≡ end_column w e total → s ≡ split total column w.a → s ≡ end_strips w e percent
  unfolding end_strips
  by_column ec es = cc

  pub even_end : e.outer ≡ true → e.code ≡ 2 → s ≡ split total (even_strip total w.strip w.width) w.a → s ≡ end_strips w e percent
  even_end outer code = by_column (cc (eq-eqb _ 2 code))

  pub part_end : {part : ℕ} → e.outer ≡ true → (e.code ≡ 2 → ⊥) → part ≡ outer_part w e
      → s ≡ split total (column_strip total part) w.a → s ≡ end_strips w e percent
  part_end outer code p = by_column (cc (ne_eqb _ 2 code))

  pub inner_end : {part : ℕ} → e.outer ≡ false → part ≡ inner_negative w.a w.r
      → s ≡ split total (column_strip total part) w.a → s ≡ end_strips w e percent
  inner_end outer p = by_column (cc)
