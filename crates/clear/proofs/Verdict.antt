-- The verdict is 0 exactly where no limit answers that it is broken, in whatever order they are asked.
--     clear_by_limits           the verdict, by what is asked one after the other
--     first_at                  the first panel is there
--     first_tells               what is broken in the first panel is broken
--     by_floor, by_first, by_lines, by_panels     where the asking ends
-- Assumes nothing.
use Prim.Native.Nat.{ℕ}
use mathlib.Core.Bool.{Bool, true, false, not, ◌||◌, ◌&&◌}
use mathlib.Core.List.{List}
use mathlib.Core.Logic.{⊎_elim}
use mathlib.Core.Path.{◌≡◌, refl, sym, ◌∙◌}
use native.Mathlib.Omega.{arith}
use lib.Dec.{eqb}
use borrow.Author.Tests.{ne_eqb}
use Rattle.numbers.specs.Tests.{some}
use Rattle.numbers.proofs.Tests.{found, says_and, says_or, says_itself}
use Rattle.plan.specs.declared.ways.Way.TheVariants.{X, Y}
use Rattle.plan.specs.Plan.{bays}
use Rattle.layouts.specs.Layouts.{layout_of}
use Rattle.floor.specs.Refusal.{refusal}
use Rattle.floor.proofs.Fair.{fair}
use Rattle.lines.specs.declared.slab.Slab.{Slab}
use Rattle.lines.specs.Lines.{is_everywhere}
use Rattle.lines.specs.Slabs.{slab_of}
use Rattle.lines.specs.Asked.{InPanel}
use Rattle.verdict.proofs.Sum.{few_is, heavy_is}
use Rattle.limits.specs.Limits.{some_pair, some_panel, too_few, few, slender_panel, uneven, astray, overloaded, heavy, unequal_panel, unbalanced, thin_panel, sum_of, verdict, is_clear}
use Rattle.clear.specs.Order.{first_panel_broken, broken_without_alpha, panels_broken}

-- ---- either of two

or_true : (b : Bool) → (b || true) ≡ true
or_true true = refl
or_true false = refl

or_left : {a : Bool} (b : Bool) → a ≡ true → (a || b) ≡ true
or_left b e = rw e

or_right : (a : Bool) {b : Bool} → b ≡ true → (a || b) ≡ true
or_right a e = rw e (or_true a)

both_true : {a b : Bool} → a ≡ true → b ≡ true → (a && b) ≡ true
both_true e h = rw (e, h)

-- ---- the sum

-- none adds to the sum, or one of them does
sum_clear : (a b c d e g h : Bool) → eqb (sum_of a b c d e g h) 0 ≡ not ((a || e) || ((c || (b || d)) || (g || h)))
unfolding sum_of
sum_clear true b c d e g h = ne_eqb (sum_of true b c d e g h) 0 (λ z. omega (arith, z))
sum_clear false b c d true g h = ne_eqb (sum_of false b c d true g h) 0 (λ z. omega (arith, z))
sum_clear false b true d false g h = ne_eqb (sum_of false b true d false g h) 0 (λ z. omega (arith, z))
sum_clear false true false d false g h = ne_eqb (sum_of false true false d false g h) 0 (λ z. omega (arith, z))
sum_clear false false false true false g h = ne_eqb (sum_of false false false true false g h) 0 (λ z. omega (arith, z))
sum_clear false false false false false true h = ne_eqb (sum_of false false false false false true h) 0 (λ z. omega (arith, z))
sum_clear false false false false false false true = refl
sum_clear false false false false false false false = refl

clear_by_limits : (f : List ℕ) → is_clear f ≡ not ((few f || heavy f) || (broken_without_alpha f || panels_broken f))
unfolding verdict
clear_by_limits f =
    sum_clear (few f) (some_panel f (slender_panel f)) (uneven f X || uneven f Y) (astray f) (heavy f) (unbalanced f) (some_panel f (thin_panel f))

-- ---- 1 and 16

module _ (f : List ℕ) {slab : Slab} (shared : slab ≡ slab_of f) {a b r : Bool} (ea : a ≡ (too_few slab.bays.x || too_few slab.bays.y))
    (eb : b ≡ overloaded slab.dead slab.live) (er : r ≡ (a || b)) where
  floor_is : r ≡ (few f || heavy f)
  floor_is = er ∙ rw (few_is f shared ea, heavy_is f shared eb)

  pub by_floor : r ≡ true → false ≡ is_clear f
  by_floor t = sym (clear_by_limits f ∙ rw (sym floor_is ∙ t))

  pub by_panels : r ≡ false → {l p : Bool} → l ≡ broken_without_alpha f → l ≡ false → p ≡ panels_broken f → not p ≡ is_clear f
  by_panels n el nl ep = sym (clear_by_limits f ∙ rw (sym floor_is ∙ n, sym el ∙ nl, ← ep))

-- ---- the first panel

module _ (f : List ℕ) (e : refusal f ≡ 0) where
  pub first_at : InPanel f 0 0
  first_at = let b = (fair f e).bays_in in record { x_bay = omega (arith, b X); y_bay = omega (arith, b Y) }

  -- some panel has what the first one has
  some_first : (p : ℕ → ℕ → Bool) → p 0 0 ≡ true → some_panel f p ≡ true
  unfolding some_pair
  some_first p h =
      let b = (fair f e).bays_in in
      found true (bays f Y) 0 (λ j. some (bays f X) (λ i. p i j)) (omega (arith, b Y)) (found true (bays f X) 0 (λ i. p i 0) (omega (arith, b X)) h)

  first_tells : first_panel_broken f ≡ true → (broken_without_alpha f || panels_broken f) ≡ true
  unfolding unbalanced
  first_tells t =
      let says = says_or (says_or (says_itself (slender_panel f 0 0)) (says_and (says_itself (is_everywhere (layout_of f))) (says_itself (unequal_panel f 0 0)))) (says_itself (thin_panel f 0 0)) in
      ⊎_elim
      (⊎_elim
      (λ h. or_left (panels_broken f) (or_right (uneven f X || uneven f Y) (or_left (astray f) (some_first (slender_panel f) h))))
      (λ h. or_right (broken_without_alpha f) (or_left (some_panel f (thin_panel f)) (both_true h.0 (some_first (unequal_panel f) h.1)))))
      (λ h. or_right (broken_without_alpha f) (or_right (unbalanced f) (some_first (thin_panel f) h)))
      (says.holds t)

  pub by_first : {r : Bool} → r ≡ first_panel_broken f → r ≡ true → false ≡ is_clear f
  by_first er t = sym (clear_by_limits f ∙ rw (first_tells (sym er ∙ t), or_true (few f || heavy f)))

pub by_lines : (f : List ℕ) {r : Bool} → r ≡ broken_without_alpha f → r ≡ true → false ≡ is_clear f
by_lines f er t = sym (clear_by_limits f ∙ rw (sym er ∙ t, or_true (few f || heavy f)))
