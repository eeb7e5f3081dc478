-- Three beams tell an allowed layout, where there is a bay each way: x line 0 is outer, so it has a beam unless none has, and lines 1 both have one
-- exactly where every line has, because such a line is outer only where it is the last.
--     told_is        what they tell is the layout of the floor
--     told_kept      and so the floor keeps it exactly where it keeps that layout
-- Assumes nothing.
use Prim.Native.Nat.{ℕ, ◌≤◌, zero-le}
use mathlib.Core.List.{List}
use mathlib.Core.Logic.{◌⊎◌, inl, inr, ⊎_elim}
use mathlib.Core.Path.{◌≡◌, refl, sym, subst}
use native.Mathlib.Decide.{dec_lt}
use native.Mathlib.Omega.{arith}
use Rattle.numbers.proofs.Tests.{says_eq, says_or, says_as, says_one, by_test, by_says}
use Rattle.plan.specs.declared.ways.Way.{Way}
use Rattle.plan.specs.declared.ways.Way.TheVariants.{X, Y}
use Rattle.plan.specs.Ways.{across}
use Rattle.plan.specs.Plan.{bays, last_line, beam_width}
use Rattle.layouts.specs.declared.Layout.{Layout}
use Rattle.layouts.specs.declared.Layout.TheVariants.{Everywhere, OuterOnly, Bare}
use Rattle.layouts.specs.declared.Rule.TheVariants.{Beams}
use Rattle.layouts.specs.Layouts.{kept, layout_of, told_by, told_layout}
use Rattle.layouts.specs.Meaning.{Beamed, LaidOut, LayoutAllowed}
use Rattle.layouts.proofs.Beams.{says_laid, says_allowed, laid, all_beams, outer_beams, no_beams}

module _ (f : List ℕ) (bay : (d : Way) → 1 ≤ bays f d) where
  -- there is a line 1 along d
  second : (d : Way) → 1 ≤ last_line f d
  second d = bay (across d)

  -- none on x line 0
  bare : beam_width f X 0 ≡ 0 → (layout : Layout) → LaidOut f layout → Bare ≡ layout_of f
  bare z Everywhere h = absurd (omega (arith, (h X 0 zero-le).1 tt))
  bare z OuterOnly h = absurd (omega (arith, (h X 0 zero-le).1 (inl refl)))
  bare z Bare h = sym (no_beams f (λ d l q. (h d l q).0))

  -- one on x line 0, and none on a line 1
  outer_only : ¬ (beam_width f X 0 ≡ 0) → (beam_width f X 1 ≡ 0) ⊎ (beam_width f Y 1 ≡ 0) → (layout : Layout) → LaidOut f layout → OuterOnly ≡ layout_of f
  outer_only b z Everywhere h =
      absurd (⊎_elim (λ e. omega (arith, (h X 1 (second X)).1 tt)) (λ e. omega (arith, (h Y 1 (second Y)).1 tt)) z)
  outer_only b z OuterOnly h =
      sym (outer_beams f h (λ a. ⊎_elim (λ e. omega (arith, (a X 1 (second X)).1 tt)) (λ e. omega (arith, (a Y 1 (second Y)).1 tt)) z))
  outer_only b z Bare h = absurd ((h X 0 zero-le).0 (omega (arith, b)))

  -- one on each of the three
  everywhere : ¬ (beam_width f X 0 ≡ 0) → ((d : Way) → Beamed f d 1) → (layout : Layout) → LaidOut f layout → Everywhere ≡ layout_of f
  everywhere b w Everywhere h = sym (all_beams f (λ d l q. (h d l q).1 tt))
  everywhere b w OuterOnly h = sym (all_beams f (λ d l q. (h d l q).1 (outer d l q)))
    where
      outer : (d : Way) (l : ℕ) → l ≤ last_line f d → (l ≡ 0) ⊎ (l ≡ last_line f d)
      outer d l q =
          let last : last_line f d ≡ 1 = ⊎_elim (λ z. absurd (omega arith)) (λ e. sym e) ((h d 1 (second d)).0 (w d)) in
          elim (dec_lt 0 l) [
            | yes p ↦ inr (omega arith)
            | no p ↦ inl (omega arith)
          ]
  everywhere b w Bare h = absurd ((h X 0 zero-le).0 (omega (arith, b)))

  beamed : ¬ ((beam_width f X 1 ≡ 0) ⊎ (beam_width f Y 1 ≡ 0)) → (d : Way) → Beamed f d 1
  beamed n X = by_says (says_eq (beam_width f X 1) 0) (λ e. absurd (n (inl e))) (λ ne. omega (arith, ne))
  beamed n Y = by_says (says_eq (beam_width f Y 1) 0) (λ e. absurd (n (inr e))) (λ ne. omega (arith, ne))

  pub told_is : LayoutAllowed f → told_layout f ≡ layout_of f
  unfolding told_layout told_by
  told_is (layout, h) =
      by_test (λ l. l ≡ layout_of f) (says_eq (beam_width f X 0) 0) (λ z. bare z layout h)
      (λ b. by_test (λ l. l ≡ layout_of f) (says_or (says_eq (beam_width f X 1) 0) (says_eq (beam_width f Y 1) 0)) (λ z. outer_only b z layout h)
      (λ n. everywhere b (beamed n) layout h))

  pub told_kept : kept f (Beams (told_layout f)) ≡ kept f (Beams (layout_of f))
  told_kept =
      says_one
      (says_as (λ h. (told_layout f, h)) (λ a. subst (LaidOut f) (sym (told_is a)) (laid f a)) (says_laid f (told_layout f)))
      (says_allowed f)
