-- Every span of a clear floor is workable: its ranges are those of an accepted floor, and its proportions are what limit 2 leaves.
--     panel_sides      a span along d and one across it are the sides of a panel, so neither exceeds twice the other
--     beside_sides     so are span s and each span beside line l, and with them l2, their mean or the one that is there
--     workable         the numbers of span s of line l
--     one_outer        and its ends: limit 1 leaves no span with two outer ends
-- Assumes nothing.
use Prim.Native.Nat.{ℕ, ◌+◌, ◌-◌, ◌*◌, ◌≤◌, ◌<◌, zero-le, min, max}
use mathlib.Core.Bool.{Bool, true, false}
use mathlib.Core.List.{List}
use mathlib.Core.Logic.{⊎_elim}
use mathlib.Core.Path.{◌≡◌, refl}
use native.Mathlib.Decide.{dec_lt}
use native.Mathlib.Omega.{arith}
use Rattle.numbers.proofs.Tests.{says_eq, by_test}
use Rattle.plan.specs.declared.ways.Way.{Way}
use Rattle.plan.specs.declared.ways.Way.TheVariants.{X, Y}
use Rattle.plan.specs.declared.ways.End.{End}
use Rattle.plan.specs.declared.ways.End.TheVariants.{Low, High}
use Rattle.plan.specs.Ways.{across, span_kind}
use Rattle.plan.specs.Plan.{bays, thickness, span, bays_of}
use Rattle.plan.proofs.Reading.{absent}
use Rattle.plan.proofs.Directions.{span_count}
use Rattle.floor.proofs.Fair.{fair}
use Rattle.stiffness.specs.Asked.{Beside}
use Rattle.stiffness.specs.Lines.{transverse_span}
use Rattle.lines.specs.Lines.{outer, below, above}
use Rattle.lines.specs.Slabs.{slab_of}
use Rattle.lines.specs.Asked.{OnLine}
use Rattle.lines.proofs.Floors.{beside_of, line_of, beam_of}
use Rattle.limits.specs.declared.Limit.TheVariants.{Few, Slender}
use Rattle.limits.specs.Meaning.{SomePlace}
use Rattle.limits.proofs.Meaning.{broken, clear_is}
use Rattle.spans.specs.declared.view.EndView.{EndView}
use Rattle.spans.specs.Views.{line_view, end_line, outer_end, inner_end, low_end, high_end, view_of}
use Rattle.spans.specs.Asked.{WorkableEnd, Workable, ClearSpan}
use Rattle.spans.specs.Meaning.{OneOuter}

-- of two spans, neither exceeds twice the other
abbrev Sided : ℕ → ℕ → Type 0
Sided a b = (a ≤ 2 * b) × (b ≤ 2 * a)

-- of a span that is there: one past an outer line reads 0
abbrev SidedIfThere : ℕ → ℕ → Type 0
SidedIfThere a b = 0 < b → Sided a b

module _ (f : List ℕ) (n : ¬ SomePlace f Slender) where
  xy_sides : (i j : ℕ) → i < bays f X → j < bays f Y → Sided (span f X i) (span f Y j)
  xy_sides i j hi hj =
      elim (dec_lt (2 * min (span f X i) (span f Y j)) (max (span f X i) (span f Y j))) [
        | yes q ↦ absurd (n (X, i, j, ((tt, hi, hj), q)))
        | no q ↦ (omega arith, omega arith)
      ]

  panel_sides : (d : Way) (s m : ℕ) → s < bays f d → m < bays f (across d) → Sided (span f d s) (span f (across d) m)
  panel_sides X s m hs hm = xy_sides s m hs hm
  panel_sides Y s m hs hm = let q = xy_sides m s hm hs in (q.1, q.0)

-- l2, of the spans that are there
transverse_sides : (outer : Bool) {l1 below above : ℕ} → Beside outer below above
    → SidedIfThere l1 below → SidedIfThere l1 above → Sided l1 (transverse_span outer below above)
unfolding transverse_span
transverse_sides true s low high =
    ⊎_elim (λ t. omega (arith, high (omega arith))) (λ t. omega (arith, low (omega arith))) s.there
transverse_sides false s low high = let two = s.there in omega (arith, low (omega arith), high (omega arith))

module _ {f : List ℕ} {d : Way} {l s : ℕ} (c : ClearSpan f d l s) where
  on_line : OnLine f d l
  on_line = record { accepted = c.accepted; line = c.line }

  beside_sides : (m : ℕ) → SidedIfThere (span f d s) (span f (across d) m)
  beside_sides m there =
      elim (dec_lt m (bays f (across d))) [
        | yes q ↦ panel_sides f ((clear_is (broken f c.accepted)).0 c.clear Slender) d s m c.span q
        | no q ↦ absurd (omega (arith, absent f (span_kind (across d)) m 1 (omega (arith, span_count f (across d)))))
      ]

  below_sides : SidedIfThere (span f d s) (below f d l)
  unfolding below
  below_sides = by_test (SidedIfThere (span f d s)) (says_eq l 0) (λ z there. absurd (omega arith)) (λ z. beside_sides (l - 1))

  l2_sides : Sided (span f d s) (transverse_span (outer f d l) (below f d l) (above f d l))
  l2_sides = transverse_sides (outer f d l) (beside_of f d l on_line) below_sides (beside_sides l)

  outer_beam : (e : End) → WorkableEnd (outer_end f d e) (thickness f)
  unfolding outer_end
  outer_beam e = beam_of f c.accepted (across d) (end_line (bays_of f) d e)

  -- without a beam
  no_beam : WorkableEnd inner_end (thickness f)
  no_beam =
      record {
        width_most = zero-le;
        depth_most = zero-le;
        above = λ h. absurd (omega arith);
        slab_least = (fair f c.accepted).thickness_in.0;
        slab_most = (fair f c.accepted).thickness_in.1;
      }

  pub workable : Workable (view_of f d l s)
  unfolding view_of slab_of line_view low_end high_end
  workable =
      let numbers = fair f c.accepted in
      record {
        line = record { spans = line_of f d l on_line; beam = beam_of f c.accepted d l };
        dead = numbers.loads.0.1;
        live = numbers.loads.1;
        least = numbers.span_least d s c.span;
        spanned = record { long = numbers.span_most d s; clear = numbers.clear d s c.span };
        wide = l2_sides.1;
        long = l2_sides.0;
        low = by_test (λ e. WorkableEnd e (thickness f)) (says_eq s 0) (λ z. outer_beam Low) (λ z. no_beam);
        high = by_test (λ e. WorkableEnd e (thickness f)) (says_eq (s + 1) (bays f d)) (λ z. outer_beam High) (λ z. no_beam);
      }

  -- with three bays or more no span is both the first and the last
  pub one_outer : OneOuter (view_of f d l s).low (view_of f d l s).high
  unfolding view_of low_end high_end outer_end
  one_outer =
      by_test (λ (e : EndView). OneOuter e (high_end f d s)) (says_eq s 0)
      (λ z. by_test (λ (e : EndView). e.outer ≡ false) (says_eq (s + 1) (bays f d)) (λ y. absurd (omega (arith, three d))) (λ y. refl)) (λ z. refl)
    where
      three : (d : Way) → 3 ≤ bays f d
      three d =
          elim (dec_lt (bays f d) 3) [
            | yes q ↦ absurd ((clear_is (broken f c.accepted)).0 c.clear Few (d, 0, 0, ((refl, refl), q)))
            | no q ↦ omega arith
          ]
