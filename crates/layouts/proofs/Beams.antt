-- Refusals 6 and 7: what the rules of spans and lines say, and which layout a floor has.
--     says_columns, says_deep     a rule kept is its statement at every span or line of both directions
--     beam_on_lem, says_laid          the same of a layout, of which `beam_on` states each case
--     says_allowed                the layout that `layout_of` answers is kept if any is, so one test stands for all three
--     layout_is, coincide         when it answers which
-- Assumes nothing.
use Prim.Native.Nat.{ℕ, ◌+◌, ◌≤◌, ◌<◌, zero-le}
use mathlib.Core.Bool.{Bool}
use mathlib.Core.List.{List}
use mathlib.Core.Logic.{◌⊎◌, inl, inr, ⊎_elim}
use mathlib.Core.Path.{◌≡◌, refl, subst}
use native.Mathlib.Decide.{dec_lt}
use native.Mathlib.Omega.{arith}
use Rattle.numbers.specs.Tests.{Says}
use Rattle.numbers.proofs.Tests.{says_lt, says_le, says_eq, says_or, says_and, says_all, says_as, says_same, says_always, says_never, by_test}
use Rattle.plan.specs.declared.ways.Way.{Way}
use Rattle.plan.specs.declared.ways.Way.TheVariants.{X, Y}
use Rattle.layouts.specs.declared.Layout.{Layout}
use Rattle.layouts.specs.declared.Layout.TheVariants.{Everywhere, OuterOnly, Bare}
use Rattle.layouts.specs.declared.Rule.{Rule}
use Rattle.layouts.specs.declared.Rule.TheVariants.{Columns, Beams, Depth}
use Rattle.plan.proofs.Directions.{says_ways}
use Rattle.plan.specs.Ways.{across}
use Rattle.plan.specs.Plan.{bays, thickness, last_line, beam_width, beam_depth}
use Rattle.layouts.specs.Layouts.{beam_on, outer_line, keeps, asked, kept_along, kept, layout_of, beams_ok}
use Rattle.layouts.specs.Meaning.{ColumnsFit, EachLine, SomeLine, Beamed, Outer, HasBeam, LaidOut, LayoutAllowed, BeamsDeep, LayoutIs}

pub beam_on_lem : (layout : Layout) {outer : Bool} {P : Type 0} → Says outer P → Says (beam_on layout outer) (HasBeam layout P)
beam_on_lem Everywhere s = says_always
beam_on_lem OuterOnly s = s
beam_on_lem Bare s = says_never

module _ (f : List ℕ) where
  -- ---- what each rule says

  says_kept : (rule : Rule) {P : Way → ℕ → Type 0} → ((d : Way) (i : ℕ) → Says (keeps f d rule i) (P d i))
      → Says (kept f rule) ((d : Way) (i : ℕ) → i < asked f d rule → P d i)
  unfolding kept kept_along
  says_kept rule s = says_ways (λ d. says_all (asked f d rule) (s d))

  -- the lines are numbered from 0 to the last
  says_lines : {b : Bool} {P : Way → ℕ → Type 0} → Says b ((d : Way) (l : ℕ) → l < last_line f d + 1 → P d l) → Says b (EachLine f P)
  says_lines s = says_as (λ h d l q. h d l (omega arith)) (λ h d l q. h d l (omega arith)) s

  pub says_columns : Says (kept f Columns) (ColumnsFit f)
  unfolding keeps
  says_columns = says_kept Columns (λ d i. says_le _ _)

  pub says_outer : (d : Way) (l : ℕ) → Says (outer_line (last_line f d) l) (Outer f d l)
  says_outer d l = says_or (says_eq l 0) (says_eq l (last_line f d))

  pub says_laid : (layout : Layout) → Says (kept f (Beams layout)) (LaidOut f layout)
  unfolding keeps
  says_laid layout = says_lines (says_kept (Beams layout) (λ d l. says_same (says_lt 0 _) (beam_on_lem layout (says_outer d l))))

  pub says_deep : Says (kept f Depth) (BeamsDeep f)
  unfolding keeps
  says_deep = says_lines (says_kept Depth (λ d l. says_as to from (says_or (says_eq (beam_width f d l) 0) (says_lt (thickness f) (beam_depth f d l)))))
    where
      to : {w : ℕ} {P : Type 0} → (w ≡ 0) ⊎ P → 0 < w → P
      to (inl z) h = absurd (omega arith)
      to (inr p) h = p

      from : {w : ℕ} {P : Type 0} → (0 < w → P) → (w ≡ 0) ⊎ P
      from {w} h =
          elim (dec_lt 0 w) [
            | yes q ↦ inr (h q)
            | no q ↦ inl (omega arith)
          ]

  -- ---- the layout of a floor

  -- the layout answered is one that the floor has, where it has one
  pub laid : LayoutAllowed f → LaidOut f (layout_of f)
  unfolding layout_of
  laid has =
      by_test (LaidOut f) (says_laid Everywhere) (λ h. h)
      (λ n. by_test (LaidOut f) (says_laid OuterOnly) (λ h. h) (λ m. third has.0 has.1 n m))
    where
      third : (layout : Layout) → LaidOut f layout → ¬ LaidOut f Everywhere → ¬ LaidOut f OuterOnly → LaidOut f Bare
      third Everywhere h n m = absurd (n h)
      third OuterOnly h n m = absurd (m h)
      third Bare h n m = h

  pub says_allowed : Says (kept f (Beams (layout_of f))) (LayoutAllowed f)
  says_allowed = says_as (λ h. (layout_of f, h)) laid (says_laid (layout_of f))

  pub says_beams : Says (beams_ok f) (LayoutAllowed f × BeamsDeep f)
  unfolding beams_ok
  says_beams = says_and says_allowed says_deep

  pub all_beams : EachLine f (Beamed f) → layout_of f ≡ Everywhere
  unfolding layout_of
  all_beams h = by_test (λ layout. layout ≡ Everywhere) (says_laid Everywhere) (λ a. refl) (λ n. absurd (n (λ d l q. (λ b. tt, λ u. h d l q))))

  pub outer_beams : LaidOut f OuterOnly → ¬ LaidOut f Everywhere → layout_of f ≡ OuterOnly
  unfolding layout_of
  outer_beams h n =
      by_test (λ layout. layout ≡ OuterOnly) (says_laid Everywhere) (λ a. absurd (n a))
      (λ n'. by_test (λ layout. layout ≡ OuterOnly) (says_laid OuterOnly) (λ o. refl) (λ m. absurd (m h)))

  -- line 0 is outer: the other two layouts have a beam there
  pub no_beams : EachLine f (λ d l. ¬ Beamed f d l) → layout_of f ≡ Bare
  unfolding layout_of
  no_beams h =
      by_test (λ layout. layout ≡ Bare) (says_laid Everywhere) (λ a. absurd (h X 0 zero-le ((a X 0 zero-le).1 tt)))
      (λ n. by_test (λ layout. layout ≡ Bare) (says_laid OuterOnly) (λ o. absurd (h X 0 zero-le ((o X 0 zero-le).1 (inl refl)))) (λ m. refl))

  -- "Where the first two coincide the floor counts as beams everywhere": one bay each way has outer lines only
  pub coincide : ((d : Way) → bays f d ≤ 1) → LaidOut f OuterOnly → layout_of f ≡ Everywhere
  coincide one o = all_beams (λ d l q. (o d l q).1 (outer (one (across d)) q))
    where
      outer : {l last : ℕ} → last ≤ 1 → l ≤ last → (l ≡ 0) ⊎ (l ≡ last)
      outer {l} h q =
          elim (dec_lt 0 l) [
            | yes p ↦ inr (omega arith)
            | no p ↦ inl (omega arith)
          ]

  module _ (allowed : LayoutAllowed f) where
    laid_as : {layout : Layout} → layout_of f ≡ layout → LaidOut f layout
    laid_as e = subst (LaidOut f) e (laid allowed)

    -- line 1 is no outer line where there is a second bay across it
    inner_bare : layout_of f ≡ OuterOnly → SomeLine f (λ d l. ¬ Beamed f d l)
    inner_bare e =
        elim (dec_lt 1 (last_line f X)) [
          | yes p ↦ inner X p
          | no p ↦
              elim (dec_lt 1 (last_line f Y)) [
                | yes q ↦ inner Y q
                | no q ↦ let z : ◌≡◌ {A = ℕ} 0 1 = cc (coincide (short p q) (laid_as e)) in absurd (omega arith)
              ]
        ]
      where
        inner : (d : Way) → 1 < last_line f d → SomeLine f (λ d l. ¬ Beamed f d l)
        inner d h = (d, 1, omega arith, λ b. ⊎_elim (λ z. omega arith) (λ z. omega arith) ((laid_as e d 1 (omega arith)).0 b))

        short : ¬ (1 < last_line f X) → ¬ (1 < last_line f Y) → (d : Way) → bays f d ≤ 1
        short p q X = omega arith
        short p q Y = omega arith

    pub layout_is : LayoutIs f
    layout_is =
        record {
          everywhere = (λ e d l q. (laid_as e d l q).1 tt, all_beams);
          outer_only =
              (λ e. (laid_as e, inner_bare e), λ h. outer_beams h.0 (λ a. h.1.3 ((a h.1.0 h.1.1 h.1.2).1 tt)));
          bare = (λ e d l q. (laid_as e d l q).0, no_beams);
        }
