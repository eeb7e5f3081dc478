-- The test of what a change names passes exactly where 01 names it: where it passes, by the kind that decided (by_naming); and each clause
-- of 01 gives its kind, at which the spans named are known.
-- Assumes nothing.
use Prim.Native.Nat.{ℕ, ◌+◌, ◌-◌, ◌≤◌, ◌<◌}
use mathlib.Core.Bool.{Bool, ◌||◌}
use mathlib.Core.List.{List}
use mathlib.Core.Logic.{◌⊎◌}
use mathlib.Core.Path.{◌≡◌, ap}
use native.Mathlib.Omega.{arith}
use lib.Dec.{eqb}
use borrow.Author.Tests.{eq-eqb, ne_eqb}
use Rattle.numbers.specs.Records.{written_from, every}
use Rattle.numbers.specs.Tests.{Says}
use Rattle.numbers.proofs.Written.{in_range}
use Rattle.numbers.proofs.Tests.{says_and, says_or, says_eq, says_le, says_lt, says_as, by_test}
use Rattle.plan.specs.declared.ways.Way.{Way}
use Rattle.plan.specs.Ways.{span_kind}
use Rattle.plan.specs.Plan.{bays, last_line, many}
use Rattle.plan.proofs.Directions.{span_count}
use Rattle.tables.specs.declared.named.Spans.{Spans}
use Rattle.tables.specs.Places.{Place, Inside, record_count, line_first, place_of}
use Rattle.tables.specs.Named.{whole_if, named_spans, among, named, named_at}
use Rattle.tables.specs.Meaning.{Names}
use Rattle.tables.specs.Meaning.Names.{loads, own_span, beside, own_line, first_span, last_span}
use Rattle.tables.proofs.Naming.{at_loads, at_own_span, at_span_across, at_own_line, at_line_across, by_naming, by_spans}
use Rattle.tables.proofs.Numbered.{place_inside, number_place}

-- span s is one of these
abbrev pub Of : Spans → ℕ → Type 0
Of r s = (r.from ≤ s) × (s < r.to)

pub says_among : (r : Spans) (s : ℕ) → Says (among r s) (Of r s)
says_among r s = says_and (says_le r.from s) (says_lt s r.to)

says_beside : (l i : ℕ) → Says (eqb l i || eqb l (i + 1)) ((l ≡ i) ⊎ (l ≡ i + 1))
says_beside l i = says_or (says_eq l i) (says_eq l (i + 1))

-- of a line that is named whole or not at all: where some span is named, so is the line
of_whole : {b : Bool} {P : Type 0} (n s : ℕ) → Says b P → Of (whole_if b n) s → P
of_whole {P = P} n s q = by_test (λ (r : Spans). Of r s → P) q (λ p h. p) (λ p h. absurd (omega (arith, h.1)))

-- and of a named line every span is
whole_of : {b : Bool} {P : Type 0} (n s : ℕ) → Says b P → P → s < n → Of (whole_if b n) s
whole_of n s q p h = rw (q.passes p) (omega arith, h)

-- the spans named of a line of n spans are spans of it, if a span that is named by its number is
pub named_most : (kind index : ℕ) (d : Way) (l n : ℕ) → (kind ≡ span_kind d → index < n) → 1 ≤ n → (named_spans kind index d l n).to ≤ n
named_most kind index d l n there some =
    by_spans kind index l n d (λ (r : Spans). r.to ≤ n) (omega arith) (λ e. omega (arith, there e)) (omega arith) (omega arith) (omega arith)

module _ (f : List ℕ) (kind index : ℕ) where
  module _ {p : Place} (h : Inside f p) where
    abbrev n : ℕ
    n = bays f p.way

    abbrev spans : Spans
    spans = named_spans kind index p.way p.line n

    names_of : Of spans p.span → Names f kind index p
    names_of =
        let G : Spans → Type 0 = λ r. Of r p.span → Names f kind index p in
        by_naming kind index p.line n p.way G
        (λ e q. loads e)
        (λ e q. own_span e (omega (arith, q.0, q.1)))
        (λ e q. beside e (of_whole _ _ (says_beside p.line index) q))
        (λ e q. own_line e (of_whole _ _ (says_eq p.line index) q))
        (λ e.
        by_test G (says_eq index 0)
        (λ z q. first_span e z (omega (arith, q.1)))
        (λ z.
        by_test G (says_eq index n)
        (λ y q. last_span e y (omega (arith, q.0, q.1)))
        (λ y q. absurd (omega (arith, q.1)))))
        (λ q. absurd (omega (arith, q.1)))

    of_names : Names f kind index p → Of spans p.span
    of_names (loads e) = rw (at_loads kind index p.line n p.way e) (omega arith, h.span)
    of_names (own_span e q) = rw (at_own_span kind index p.line n p.way e, q) (omega arith, omega arith)
    of_names (beside e q) =
        rw (at_span_across kind index p.line n p.way e) (whole_of _ _ (says_beside p.line index) q h.span)
    of_names (own_line e q) = rw (at_own_line kind index p.line n p.way e) (whole_of _ _ (says_eq p.line index) q h.span)
    of_names (first_span e z q) = rw (at_line_across kind index p.line n p.way e, z, q) (omega arith, omega arith)
    of_names (last_span e y q) =
        rw (at_line_across kind index p.line n p.way e, ne_eqb index 0 (λ z. omega (arith, h.span)), eq-eqb index n y)
        (omega arith, omega arith)

    pub says_named : Says (named f kind index p) (Names f kind index p)
    says_named = says_as names_of of_names (says_among spans p.span)

  -- the same of a record by its number
  pub says_named_at : {k : ℕ} → k < record_count f → Says (named_at f kind index k) (Names f kind index (place_of f k))
  unfolding named_at
  says_named_at h = says_named (place_inside f h)

  -- the named records of a line follow one another
  pub named_line : (d : Way) (l s : ℕ) → l ≤ last_line f d → s < bays f d
      → named_at f kind index (line_first f d l + s) ≡ among (named_spans kind index d l (bays f d)) s
  unfolding named_at
  named_line d l s hl hs =
      ap (λ (p : Place). named f kind index p) (number_place f {p = record { way = d; line = l; span = s }} (record { line = hl; span = hs }))

  -- a record of a span that the floor has is of one of its spans
  pub span_there : index < many f kind → (d : Way) → kind ≡ span_kind d → index < bays f d
  span_there h d e = omega (arith, h, ap (λ (k : ℕ). many f k) e, span_count f d)

  -- the spans named of a line are spans of it
  pub to_most : (d : Way) (l : ℕ) → index < many f kind → 1 ≤ bays f d → (named_spans kind index d l (bays f d)).to ≤ bays f d
  to_most d l h some = named_most kind index d l (bays f d) (span_there h d) some

  -- so of a line, the named records written are every record of one stretch
  pub line_written : (w : ℕ) (g : ℕ → List ℕ) (d : Way) (l : ℕ) (t : List ℕ) → l ≤ last_line f d → index < many f kind → 1 ≤ bays f d
      → let r = named_spans kind index d l (bays f d) in
      written_from w (named_at f kind index) g (line_first f d l) (bays f d) t
      ≡ written_from w every g (line_first f d l + r.from) (r.to - r.from) t
  line_written w g d l t hl h some =
      in_range w (named_at f kind index) g (line_first f d l) (bays f d) _ _ t (to_most d l h some) (λ s hs. named_line d l s hl hs)

pub from_most : (kind index : ℕ) (d : Way) (l n : ℕ) → (named_spans kind index d l n).from ≤ (named_spans kind index d l n).to
from_most kind index d l n =
    by_spans kind index l n d (λ (r : Spans). r.from ≤ r.to) (omega arith) (λ e. omega arith) (omega arith) (omega arith) (omega arith)
