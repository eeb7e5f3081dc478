-- What the rules ask, at each line and panel of an accepted floor: floor's `fair`, in the records that the formulas ask.
--     beside_of, line_of, frame_of     the spans beside line l, with the column across, and W
--     beam_of, alpha_bound, no_beam    the beam on it, and α, of which its bound alone is used, and that it is 0 without a beam
--     clear_of, grade_most, panel_in   a clear span, the grade, and a panel's two clear spans
-- A line is the first, the last or one inside; the span past an outer line is not there and reads 0.
-- Assumes nothing.
use Prim.Native.Nat.{ℕ, ◌*◌, ◌-◌, ◌%◌, ◌≤◌, ◌<◌, zero-le}
use mathlib.Core.Bool.{Bool, true, false, cond, false≢true}
use mathlib.Core.List.{List}
use mathlib.Core.Logic.{inl, inr, ⊎_elim}
use mathlib.Core.Path.{◌≡◌, refl}
use native.Mathlib.Omega.{arith}
use borrow.Author.Tests.{eq-eqb, ne_eqb}
use Rattle.numbers.specs.Tests.{Says}
use Rattle.numbers.proofs.Tests.{says_eq, by_test}
use Rattle.plan.specs.declared.ways.Way.{Way}
use Rattle.plan.specs.declared.ways.Way.TheVariants.{X, Y}
use Rattle.plan.specs.Ways.{across, span_kind}
use Rattle.plan.specs.Plan.{bays, thickness, grade, column, span, last_line, beam_width, beam_depth}
use Rattle.plan.proofs.Reading.{absent}
use Rattle.plan.proofs.Directions.{span_count}
use Rattle.floor.specs.Refusal.{refusal}
use Rattle.floor.specs.Fair.{Fair}
use Rattle.floor.proofs.Fair.{fair}
use Rattle.layouts.proofs.Beams.{says_outer}
use Rattle.stiffness.specs.Asked.{Span, Column, OneSpan, Beside, Line, Frame, Beam}
use Rattle.thickness.specs.Asked.{PanelSizes}
use Rattle.stiffness.proofs.Widths.{frame_in}
use Rattle.stiffness.proofs.Stiffness.{alpha_most, alpha_none}
use Rattle.thickness.proofs.Thinnest.{panel_of}
use Rattle.lines.specs.Lines.{outer, below, above, line_width, line_alpha, clear_span, panel_view}
use Rattle.lines.specs.Asked.{OnLine, InBay}

-- of two statements, the one that a test picks
picked : {b : Bool} {P A B : Type 0} → Says b P → (P → A) → ((P → ⊥) → B) → cond b A B
picked {b = true} s to else = to (s.holds refl)
picked {b = false} s to else = else (λ p. false≢true (s.passes p))

module _ (f : List ℕ) (e : refusal f ≡ 0) where
  column_of : (d : Way) → Column (column f d)
  column_of d = let c = (fair f e).column_in d in record { least = c.0.0; most = c.0.1; tens = c.1 }

  span_of : (d : Way) (k : ℕ) → k < bays f d → Span (span f d k)
  span_of d k h =
      record { least = (fair f e).span_least d k h; most = (fair f e).span_most d k; twenties = (fair f e).span_twenties d k }

  pub beam_of : (d : Way) (l : ℕ) → Beam (beam_width f d l) (beam_depth f d l) (thickness f)
  beam_of d l =
      record {
        width_most = (fair f e).width_most d l;
        depth_most = (fair f e).depth_most d l;
        above = (fair f e).deep d l;
        slab_least = (fair f e).thickness_in.0;
        slab_most = (fair f e).thickness_in.1;
      }

  pub grade_most : grade f ≤ 520
  grade_most = ⊎_elim (λ a. omega arith) (⊎_elim (λ a. omega arith) (λ a. omega arith)) (fair f e).materials.1

-- the clear spans of an accepted floor, whose columns are at most half of each span
clear_in : {l c : ℕ} → Span l → Column c → 2 * c ≤ l → (500 ≤ l - c) × (l - c ≤ 11800)
clear_in l c h = omega arith

pub clear_of : (f : List ℕ) (d : Way) (k : ℕ) → InBay f d k → (500 ≤ clear_span f d k) × (clear_span f d k ≤ 11800)
unfolding clear_span
clear_of f d k at =
    clear_in (span_of f at.accepted d k at.bay) (column_of f at.accepted d) ((fair f at.accepted).clear d k at.bay)

module _ (f : List ℕ) (d : Way) (l : ℕ) (at : OnLine f d l) where
  abbrev numbers : Fair f
  numbers = fair f at.accepted

  below_first : l ≡ 0 → below f d l ≡ 0
  unfolding below
  below_first z = rw (eq-eqb l 0 z)

  below_least : (l ≡ 0 → ⊥) → 1000 ≤ below f d l
  unfolding below
  below_least n = rw (ne_eqb l 0 n) (numbers.span_least (across d) (l - 1) (omega (arith, n, at.line)))

  below_in : (below f d l ≤ 12000) × (below f d l % 20 ≡ 0)
  unfolding below
  below_in =
      by_test (λ n. (n ≤ 12000) × (n % 20 ≡ 0)) (says_eq l 0) (λ z. (zero-le, refl))
      (λ z. (numbers.span_most (across d) (l - 1), numbers.span_twenties (across d) (l - 1)))

  first_line : l ≡ 0 → OneSpan (below f d l) (above f d l)
  first_line z = inl (below_first z, numbers.span_least (across d) l (omega (arith, numbers.bays_in (across d))))

  one_below : l ≡ last_line f d → OneSpan (below f d l) (above f d l)
  one_below z =
      inr (below_least (λ n. omega (arith, numbers.bays_in (across d))), absent f (span_kind (across d)) l 1 (omega (arith, span_count f (across d))))

  between : (l ≡ 0 → ⊥) → (l ≡ last_line f d → ⊥) → (1000 ≤ below f d l) × (1000 ≤ above f d l)
  between n m = (below_least n, numbers.span_least (across d) l (omega (arith, m, at.line)))

  pub beside_of : Beside (outer f d l) (below f d l) (above f d l)
  beside_of =
      record {
        below_most = below_in.0;
        below_twenties = below_in.1;
        above_most = numbers.span_most (across d) l;
        above_twenties = numbers.span_twenties (across d) l;
        there = picked (says_outer f d l) (⊎_elim first_line one_below) (λ n. between (λ z. n (inl z)) (λ z. n (inr z)));
      }

  pub line_of : Line (outer f d l) (below f d l) (above f d l) (column f (across d))
  line_of = record { spans = beside_of; across = column_of f at.accepted (across d) }

  pub frame_of : Frame (line_width f d l)
  frame_of = frame_in (outer f d l) line_of

  pub alpha_bound : line_alpha f d l ≤ 200000000
  unfolding line_alpha
  alpha_bound = alpha_most (outer f d l) (beam_of f at.accepted d l) frame_of

-- without a beam α is 0
pub no_beam : (f : List ℕ) (d : Way) (l : ℕ) → beam_width f d l ≡ 0 → line_alpha f d l ≡ 0
unfolding line_alpha
no_beam f d l none = rw none (alpha_none (outer f d l) (beam_depth f d l) (line_width f d l) (thickness f))

module _ (f : List ℕ) (i j : ℕ) (e : refusal f ≡ 0) (hi : i < bays f X) (hj : j < bays f Y) where
  pub panel_in : PanelSizes (panel_view f i j).fy (panel_view f i j).sn (panel_view f i j).ln
  unfolding panel_view
  panel_in =
      panel_of (grade_most f e) (clear_of f X i (record { accepted = e; bay = hi })) (clear_of f Y j (record { accepted = e; bay = hj }))
