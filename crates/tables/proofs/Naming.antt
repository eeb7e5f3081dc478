-- The spans of a line that a change names, by its kind: the five kinds that name any are all different, so each decides alone.
--     at-..        of one of these kinds; and of none
--     by_naming    what holds of each kind's spans, and of none, holds of the spans named
--     by_spans     the same by what they are: all, one, the first, the last or none
-- Assumes nothing.
use Prim.Native.Nat.{ℕ, ◌+◌, ◌-◌}
use mathlib.Core.Bool.{Bool, true, false, ◌||◌}
use mathlib.Core.Path.{◌≡◌}
use lib.Dec.{eqb}
use borrow.Author.Tests.{ne_eqb}
use Rattle.numbers.proofs.Tests.{by_test, says_eq}
use Rattle.plan.specs.declared.ways.Way.{Way}
use Rattle.plan.specs.declared.ways.Way.TheVariants.{X, Y}
use Rattle.plan.specs.Ways.{across, span_kind, line_kind}
use Rattle.tables.specs.declared.named.Spans.{Spans}
use Rattle.tables.specs.Named.{all_spans, only_span, no_span, whole_if, end_span, named_spans}

module _ (kind index l n : ℕ) where
  pub at_loads : (d : Way) → kind ≡ 3 → named_spans kind index d l n ≡ all_spans n
  unfolding named_spans
  at_loads d e = rw e

  pub at_own_span : (d : Way) → kind ≡ span_kind d → named_spans kind index d l n ≡ only_span index
  unfolding named_spans
  at_own_span X e = rw e
  at_own_span Y e = rw e

  pub at_span_across : (d : Way) → kind ≡ span_kind (across d) → named_spans kind index d l n ≡ whole_if (eqb l index || eqb l (index + 1)) n
  unfolding named_spans
  at_span_across X e = rw e
  at_span_across Y e = rw e

  pub at_own_line : (d : Way) → kind ≡ line_kind d → named_spans kind index d l n ≡ whole_if (eqb l index) n
  unfolding named_spans
  at_own_line X e = rw e
  at_own_line Y e = rw e

  pub at_line_across : (d : Way) → kind ≡ line_kind (across d) → named_spans kind index d l n ≡ end_span n index
  unfolding named_spans
  at_line_across X e = rw e
  at_line_across Y e = rw e

  pub at_rest : (d : Way) → (kind ≡ 3 → ⊥) → (kind ≡ span_kind d → ⊥) → (kind ≡ span_kind (across d) → ⊥) → (kind ≡ line_kind d → ⊥)
      → (kind ≡ line_kind (across d) → ⊥) → named_spans kind index d l n ≡ no_span
  unfolding named_spans
  at_rest d p q r s t = rw (ne_eqb kind 3 p, ne_eqb kind (span_kind d) q, ne_eqb kind (span_kind (across d)) r, ne_eqb kind (line_kind d) s, ne_eqb kind (line_kind (across d)) t)

  pub by_naming : (d : Way) (G : Spans → Type 0) → (kind ≡ 3 → G (all_spans n)) → (kind ≡ span_kind d → G (only_span index))
      → (kind ≡ span_kind (across d) → G (whole_if (eqb l index || eqb l (index + 1)) n)) → (kind ≡ line_kind d → G (whole_if (eqb l index) n))
      → (kind ≡ line_kind (across d) → G (end_span n index)) → G no_span → G (named_spans kind index d l n)
  unfolding named_spans
  by_naming d G loads own_span span_across own_line line_across none =
      by_test G (says_eq kind 3) loads (λ p.
      by_test G (says_eq kind (span_kind d)) own_span (λ q.
      by_test G (says_eq kind (span_kind (across d))) span_across (λ r.
      by_test G (says_eq kind (line_kind d)) own_line (λ s.
      by_test G (says_eq kind (line_kind (across d))) line_across (λ t. none)))))

  pub by_spans : (d : Way) (G : Spans → Type 0) → G (all_spans n) → (kind ≡ span_kind d → G (only_span index)) → G (only_span 0)
      → G (record { from = n - 1; to = n }) → G no_span → G (named_spans kind index d l n)
  by_spans d G whole own first last none =
      by_naming d G (λ e. whole) own (λ e. if_whole (eqb l index || eqb l (index + 1))) (λ e. if_whole (eqb l index))
      (λ e. by_test G (says_eq index 0) (λ z. first) (λ z. by_test G (says_eq index n) (λ y. last) (λ y. none))) none
    where
      if_whole : (b : Bool) → G (whole_if b n)
      if_whole true = whole
      if_whole false = none
