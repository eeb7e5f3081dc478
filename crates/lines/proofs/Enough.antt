-- What is asked of a panel's thickness as a statement is what the rule chosen by its numbers asks.
--     place_is, place_one       the panel's place is one of the three of 01, and no other
--     by_01, from_01            the rule that is chosen, and 01's three cases, each gives the other
--     enough_here, asked_here   and so they do with ten percent more at a weak edge
--     panel_least               the least thickness is the least that is asked: bit 64 and the panel query speak of one number
--     says_thinner              a slab is thinner than it exactly where the slab's thickness is not enough
-- Assumes nothing.
use Prim.Native.Nat.{ℕ, ◌+◌, ◌≤◌, ◌<◌}
use mathlib.Core.Bool.{Bool, true, false, cond, ◌&&◌, false≢true}
use mathlib.Core.List.{List}
use mathlib.Core.Logic.{inl, inr, ⊎_elim}
use mathlib.Core.Path.{◌≡◌, refl, subst}
use native.Mathlib.Decide.{dec_lt}
use native.Mathlib.Omega.{arith}
use lib.Dec.{ltb, lit≤}
use Rattle.numbers.specs.Least.{Least}
use Rattle.numbers.specs.Tests.{Says}
use Rattle.numbers.proofs.Tests.{says_lt, says_and, says_and3, says_as, by_test}
use Rattle.plan.specs.declared.ways.Way.{Way}
use Rattle.plan.specs.declared.ways.Way.TheVariants.{X, Y}
use Rattle.plan.specs.Ways.{pick, across}
use Rattle.plan.specs.Plan.{bays, grade, last_line}
use Rattle.layouts.specs.declared.Layout.{Layout}
use Rattle.layouts.specs.declared.Layout.TheVariants.{Everywhere, OuterOnly}
use Rattle.layouts.specs.Layouts.{layout_of}
use Rattle.floor.specs.Refusal.{refusal}
use Rattle.floor.proofs.Fair.{fair}
use Rattle.thickness.specs.declared.PanelPlace.{PanelPlace}
use Rattle.thickness.specs.declared.PanelPlace.TheVariants.{Bare, Edged, Inner}
use Rattle.thickness.specs.LeastThickness.{by_stiffness, EnoughBy01, raises, Enough, Tabled, divisor}
use Rattle.thickness.proofs.Thinnest.{least_thickness_lem, enough_on, raised_as}
use Rattle.lines.specs.Lines.{line_alpha, panel_place, panel_alpha, panel_view, panel_thickness, longer_clear}
use Rattle.lines.specs.Meaning.{EndBay, OuterPanel, EdgeBeams, WeakEdge, PlaceIs, PanelBy01, Raises, PanelEnough}
use Rattle.lines.proofs.Meaning.{says_outer_panel, says_weak, says_everywhere}
use Rattle.lines.proofs.Floors.{panel_in, no_beam}

-- ---- one of three rules, by two tests: what is asked in the case that is chosen is what is asked in each case

-- what is asked in each case
abbrev Cases : Type 0 → ℕ → Type 0 → Type 0 → Type 0 → Type 0
Cases E S P Q R = (E → 80000 < S → P) × (E → 8000 < S → S ≤ 80000 → Q) × (¬ (E × (8000 < S)) → R)

module _ {b : Bool} {E : Type 0} (s : Says b E) (S : ℕ) where
  stiff_says : Says (b && ltb 80000 S) (E × (80000 < S))
  stiff_says = says_and s (says_lt 80000 S)

  middling_says : Says (b && ltb 8000 S) (E × (8000 < S))
  middling_says = says_and s (says_lt 8000 S)

  in_cases : (P Q R : ℕ → Type 0) (t : ℕ) → by_stiffness b S P Q R t → Cases E S (P t) (Q t) (R t)
  in_cases P Q R t = told (b && ltb 80000 S) (b && ltb 8000 S) stiff_says middling_says
    where
      told : (x y : Bool) → Says x (E × (80000 < S)) → Says y (E × (8000 < S)) → cond x P (cond y Q R) t → Cases E S (P t) (Q t) (R t)
      told true y sx sy h =
          (λ _ _. h, λ _ _ m. absurd (omega (arith, m, (sx.holds refl).1)), λ n. absurd (n ((sx.holds refl).0, omega (arith, (sx.holds refl).1))))
      told false true sx sy h = (λ e m. absurd (false≢true (sx.passes (e, m))), λ _ _ _. h, λ n. absurd (n (sy.holds refl)))
      told false false sx sy h =
          (λ e m. absurd (false≢true (sx.passes (e, m))), λ e m _. absurd (false≢true (sy.passes (e, m))), λ _. h)

  by_cases : (P Q R : ℕ → Type 0) (t : ℕ) → Cases E S (P t) (Q t) (R t) → by_stiffness b S P Q R t
  by_cases P Q R t h = told (b && ltb 80000 S) (b && ltb 8000 S) stiff_says middling_says
    where
      told : (x y : Bool) → Says x (E × (80000 < S)) → Says y (E × (8000 < S)) → cond x P (cond y Q R) t
      told true y sx sy = h.0 (sx.holds refl).0 (sx.holds refl).1
      told false true sx sy =
          let m = sy.holds refl in
          elim (dec_lt 80000 S) [
            | yes l ↦ absurd (false≢true (sx.passes (m.0, l)))
            | no l ↦ h.1 m.0 m.1 (omega (arith, l))
          ]
      told false false sx sy = h.2 (λ m. false≢true (sy.passes m))

-- ---- one of two, by one test

in_either : {b : Bool} {E : Type 0} → Says b E → (P Q : ℕ → Type 0) (t : ℕ) → cond b P Q t → (E → P t) × (¬ E → Q t)
in_either {b = true} s P Q t h = (λ _. h, λ n. absurd (n (s.holds refl)))
in_either {b = false} s P Q t h = (λ e. absurd (false≢true (s.passes e)), λ _. h)

by_either : {b : Bool} {E : Type 0} → Says b E → (P Q : ℕ → Type 0) (t : ℕ) → (E → P t) → (¬ E → Q t) → cond b P Q t
by_either {b = true} s P Q t to else = to (s.holds refl)
by_either {b = false} s P Q t to else = else (λ e. false≢true (s.passes e))

module _ (f : List ℕ) (i j : ℕ) (e : refusal f ≡ 0) (hi : i < bays f X) (hj : j < bays f Y) where
  -- ---- the panel's place

  -- where no line has a beam, an outer panel has a weak edge: α is 0
  bare_weak : layout_of f ≡ Rattle.layouts.specs.declared.Layout.TheVariants.Bare → OuterPanel f i j → WeakEdge f i j
  bare_weak z = ⊎_elim (at_end Y hi) (at_end X hj)
    where
      weak : (d : Way) (l : ℕ) → l ≤ last_line f d → line_alpha f d l < 8000
      weak d l h = rw (no_beam f d l (omega (arith, (fair f e).layout_is.bare.0 z d l h))) (lit≤ tt)

      at_end : (d : Way) → pick d j i < last_line f d → EndBay f (across d) (pick d j i) → WeakEdge f i j
      at_end d h (inl end) = (d, pick d j i, inl refl, inl end, weak d (pick d j i) (omega (arith, h)))
      at_end d h (inr end) = (d, pick d j i + 1, inr refl, inr end, weak d (pick d j i + 1) (omega (arith, h)))

  edge_beams : OuterPanel f i j → ¬ WeakEdge f i j → (layout : Layout) → layout_of f ≡ layout → EdgeBeams f
  edge_beams o n Everywhere z = λ d l h _. (fair f e).layout_is.everywhere.0 z d l h
  edge_beams o n OuterOnly z = λ d l h out. (((fair f e).layout_is.outer_only.0 z).0 d l h).1 out
  edge_beams o n Rattle.layouts.specs.declared.Layout.TheVariants.Bare z = absurd (n (bare_weak z o))

  place_is : PlaceIs f i j (panel_place f i j)
  unfolding panel_place
  place_is =
      by_test (PlaceIs f i j) (says_outer_panel f hi hj)
      (λ o. by_test (PlaceIs f i j) (says_weak f i j) (λ w. (o, inr w)) (λ n. (o, edge_beams o n (layout_of f) refl, n))) (λ n. n)

  place_one : (p q : PanelPlace) → PlaceIs f i j p → PlaceIs f i j q → p ≡ q
  place_one Bare Bare x y = refl
  place_one Bare Edged x y = absurd (⊎_elim (λ n. n y.1) y.2 x.1)
  place_one Bare Inner x y = absurd (y x.0)
  place_one Edged Bare x y = absurd (⊎_elim (λ n. n x.1) x.2 y.1)
  place_one Edged Edged x y = refl
  place_one Edged Inner x y = absurd (y x.0)
  place_one Inner Bare x y = absurd (x y.0)
  place_one Inner Edged x y = absurd (x y.0)
  place_one Inner Inner x y = refl

  -- ---- what is asked

  by_01 : {t : ℕ} → EnoughBy01 (panel_view f i j) t → PanelBy01 f i j t
  unfolding EnoughBy01 panel_view
  by_01 {t} h =
      let c = in_cases (says_everywhere f e) (panel_alpha f i j) _ _ _ t h in
      record {
        stiff = c.0;
        middling = c.1;
        tabled = λ n place is.
            subst (λ (p : PanelPlace). Tabled (divisor (grade f) p) (longer_clear f i j) t) (place_one (panel_place f i j) place place_is is) (c.2 n);
      }

  from_01 : {t : ℕ} → PanelBy01 f i j t → EnoughBy01 (panel_view f i j) t
  unfolding EnoughBy01 panel_view
  from_01 {t} h =
      by_cases (says_everywhere f e) (panel_alpha f i j) _ _ _ t (h.stiff, h.middling, λ n. h.tabled n (panel_place f i j) place_is)

  says_raises : Says (raises (panel_view f i j)) (Raises f i j)
  unfolding raises panel_view
  says_raises = says_and3 (says_weak f i j) (says_everywhere f e) (says_lt 8000 (panel_alpha f i j))

  enough_here : {t : ℕ} → Enough (panel_view f i j) t → PanelEnough f i j t
  unfolding Enough
  enough_here {t} h =
      let c = in_either says_raises _ _ t h in
      record { raised = λ w. raised_as (λ u. by_01) (λ u. from_01) (c.0 w); plain = λ n. by_01 (c.1 n) }

  asked_here : {t : ℕ} → PanelEnough f i j t → Enough (panel_view f i j) t
  unfolding Enough
  asked_here {t} h = by_either says_raises _ _ t (λ w. raised_as (λ u. from_01) (λ u. by_01) (h.raised w)) (λ n. from_01 (h.plain n))

  -- ---- the least of it

  pub panel_least : Least (PanelEnough f i j) (panel_thickness f i j)
  unfolding panel_thickness
  panel_least =
      let l = (least_thickness_lem (panel_view f i j) (panel_in f i j e hi hj)).0 in
      record { holds = enough_here l.holds; first = λ t h. l.first t (asked_here h) }

  pub says_thinner : (t : ℕ) → Says (ltb t (panel_thickness f i j)) (¬ PanelEnough f i j t)
  says_thinner t = says_as to from (says_lt t (panel_thickness f i j))
    where
      to : t < panel_thickness f i j → ¬ PanelEnough f i j t
      to h p = omega (arith, h, panel_least.first t p)

      from : ¬ PanelEnough f i j t → t < panel_thickness f i j
      from n =
          elim (dec_lt t (panel_thickness f i j)) [
            | yes h ↦ h
            | no h ↦ absurd (n (enough_here (enough_on (panel_view f i j) (panel_thickness f i j) t (omega (arith, h)) (asked_here panel_least.holds))))
          ]
