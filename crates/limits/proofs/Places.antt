-- The test at each place says what breaks the limit there, and the verdict's test of a limit finds a place exactly where there is one.
--     place_in, in_place     the places of a limit are those within its extent
--     says_at                the test at a place says what breaks the limit there
--     says_limit             the verdict's test says that there is a place: it is the same as asking every place, one after the other
-- Assumes nothing.
use Prim.Native.Nat.{ℕ, ◌+◌, ◌-◌, ◌<◌, ◌≤◌, min}
use mathlib.Core.Bool.{Bool, true, false, ◌||◌, ◌&&◌, false≢true}
use mathlib.Core.List.{List}
use mathlib.Core.Logic.{◌⊎◌, inl, inr, ⊎_elim}
use mathlib.Core.Path.{◌≡◌, refl, sym, subst, ap, ◌∙◌}
use native.Mathlib.Decide.{dec_lt}
use native.Mathlib.Omega.{arith}
use lib.Dec.{ltb}
use Rattle.numbers.specs.Tests.{until, Says}
use Rattle.numbers.proofs.Tests.{says_lt, says_or, says_and, says_as, says_some, says_one, says_itself, fails}
use Rattle.plan.specs.declared.ways.Way.{Way}
use Rattle.plan.specs.declared.ways.Way.TheVariants.{X, Y}
use Rattle.plan.specs.Plan.{bays, bays_of, thickness, span}
use Rattle.floor.specs.Refusal.{refusal}
use Rattle.floor.proofs.Fair.{fair}
use Rattle.lines.specs.Lines.{is_everywhere}
use Rattle.layouts.specs.Layouts.{layout_of}
use Rattle.lines.proofs.Meaning.{says_everywhere}
use Rattle.lines.proofs.Enough.{says_thinner}
use Rattle.limits.specs.declared.Limit.{Limit}
use Rattle.limits.specs.declared.Limit.TheVariants.{Few, Slender, Uneven, Astray, Heavy, Unbalanced, Thin}
use Rattle.limits.specs.Limits.{some_pair, some_panel, few, slender_panel, uneven, adjoining, astray_along, astray_column, astray, heavy, unequal_panel, unbalanced_panel, unbalanced, thin_panel, is_broken}
use Rattle.limits.specs.Places.{extent, broken_at}
use Rattle.limits.specs.Meaning.{PlaceOf, Adjoins, Exceeded, Breaks, BrokenAt, SomePlace}

-- a test along x or along y says it of a direction
says_way : {x y : Bool} {P : Way → Type 0} → Says x (P X) → Says y (P Y) → Says (x || y) ((d : Way) × P d)
says_way {P = P} sx sy = says_as to from (says_or sx sy)
  where
    to : P X ⊎ P Y → (d : Way) × P d
    to (inl x) = (X, x)
    to (inr y) = (Y, y)

    from : ((d : Way) × P d) → P X ⊎ P Y
    from (X, x) = inl x
    from (Y, y) = inr y

-- a test of some pair, whose parts say their meaning within the bounds
says_pair : (nx ny : ℕ) {p : ℕ → ℕ → Bool} {P : ℕ → ℕ → Type 0} → ((i j : ℕ) → i < nx → j < ny → Says (p i j) (P i j))
    → Says (some_pair nx ny p) ((i j : ℕ) × (i < nx) × (j < ny) × P i j)
unfolding some_pair
says_pair nx ny {p} s =
    says_as
    (λ h. (h.2.0, h.0, h.2.1, h.1, (s h.2.0 h.0 h.2.1 h.1).holds h.2.2))
    (λ h. (h.1, h.3, (h.0, h.2, (s h.0 h.1 h.2 h.3).passes h.4)))
    (says_some ny (λ j. says_some nx (λ i. says_itself (p i j))))

-- ---- the places

-- at some place along d, and at some place
abbrev somewhere_along : List ℕ → Limit → Way → Bool
somewhere_along f l d = let e = extent l d (bays_of f) in some_pair e.x e.y (broken_at f l d)

abbrev somewhere : List ℕ → Limit → Bool
somewhere f l = somewhere_along f l X || somewhere_along f l Y

module _ (f : List ℕ) where
  pub place_in : (l : Limit) (d : Way) {i j : ℕ} → PlaceOf f l d i j → (i < (extent l d (bays_of f)).x) × (j < (extent l d (bays_of f)).y)
  place_in Few d h = (omega (arith, h), omega (arith, h))
  place_in Slender X h = (h.1, h.2)
  place_in Slender Y h = absurd h.0
  place_in Uneven X h = (omega (arith, h), omega (arith, h))
  place_in Uneven Y h = (omega (arith, h), omega (arith, h))
  place_in Astray d h = (omega (arith, h), omega (arith, h))
  place_in Heavy X h = (omega (arith, h.1), omega (arith, h.1))
  place_in Heavy Y h = absurd h.0
  place_in Unbalanced X h = (h.1, h.2)
  place_in Unbalanced Y h = absurd h.0
  place_in Thin X h = (h.1, h.2)
  place_in Thin Y h = absurd h.0

  pub in_place : (l : Limit) (d : Way) {i j : ℕ} → i < (extent l d (bays_of f)).x → j < (extent l d (bays_of f)).y → PlaceOf f l d i j
  in_place Few d hi hj = (omega arith, omega arith)
  in_place Slender X hi hj = (tt, hi, hj)
  in_place Slender Y hi hj = absurd (omega (arith, hi))
  in_place Uneven X hi hj = (omega arith, omega arith)
  in_place Uneven Y hi hj = (omega arith, omega arith)
  in_place Astray d hi hj = (omega arith, omega arith)
  in_place Heavy X hi hj = (tt, (omega arith, omega arith))
  in_place Heavy Y hi hj = absurd (omega (arith, hi))
  in_place Unbalanced X hi hj = (tt, hi, hj)
  in_place Unbalanced Y hi hj = absurd (omega (arith, hi))
  in_place Thin X hi hj = (tt, hi, hj)
  in_place Thin Y hi hj = absurd (omega (arith, hi))

  -- ---- the test at a place

  -- the lesser of two spans is below n where one of them is; these are the spans that adjoin
  says_exceeded : (d : Way) (k n : ℕ) → 0 < bays f d → k ≤ bays f d → Says (ltb (adjoining f d k) n) (Exceeded f d k n)
  unfolding adjoining
  says_exceeded d k n some last = says_as to from (says_lt (adjoining f d k) n)
    where
      low_adjoins : Adjoins (k - 1) k
      low_adjoins =
          elim (dec_lt 0 k) [
            | yes h ↦ inr (omega arith)
            | no h ↦ inl (omega arith)
          ]

      high_adjoins : Adjoins (min k (bays f d - 1)) k
      high_adjoins =
          elim (dec_lt k (bays f d)) [
            | yes h ↦ inl (omega arith)
            | no h ↦ inr (omega arith)
          ]

      to : adjoining f d k < n → Exceeded f d k n
      to h =
          elim (dec_lt (span f d (k - 1)) n) [
            | yes l ↦ (k - 1, omega arith, low_adjoins, l)
            | no l ↦ (min k (bays f d - 1), omega arith, high_adjoins, omega (arith, h, l))
          ]

      from : Exceeded f d k n → adjoining f d k < n
      from (s, hs, inl e, q) = let g : min k (bays f d - 1) ≡ s = omega arith in omega (arith, ap (span f d) g)
      from (s, hs, inr e, q) = let g : k - 1 ≡ s = omega arith in omega (arith, ap (span f d) g)

  pub says_at : refusal f ≡ 0 → (l : Limit) (d : Way) (i j : ℕ) → PlaceOf f l d i j → Says (broken_at f l d i j) (Breaks f l d i j)
  unfolding slender_panel heavy unequal_panel thin_panel
  says_at e Few d i j h = says_lt _ _
  says_at e Slender d i j h = says_lt _ _
  says_at e Uneven d i j h = says_lt _ _
  says_at e Astray X i j h = says_exceeded X i _ (omega (arith, (fair f e).bays_in X)) h.0
  says_at e Astray Y i j h = says_exceeded Y j _ (omega (arith, (fair f e).bays_in Y)) h.1
  says_at e Heavy d i j h = says_lt _ _
  says_at e Unbalanced d i j h = says_and (says_everywhere f e) (says_or (says_lt _ _) (says_lt _ _))
  says_at e Thin d i j h = says_thinner f i j e h.1 h.2 (thickness f)

  -- ---- every place, one after the other

  says_along : refusal f ≡ 0 → (l : Limit) (d : Way) → Says (somewhere_along f l d) ((i : ℕ) × (j : ℕ) × BrokenAt f l d i j)
  says_along e l d =
      says_as
      (λ h. (h.0, h.1, (in_place l d h.2 h.3, h.4)))
      (λ h. let q = place_in l d h.2.0 in (h.0, h.1, q.0, q.1, h.2.1))
      (says_pair _ _ (λ i j hi hj. says_at e l d i j (in_place l d hi hj)))

  says_somewhere : refusal f ≡ 0 → (l : Limit) → Says (somewhere f l) (SomePlace f l)
  says_somewhere e l =
      says_as (λ h. (h.0, h.1.0, h.1.1, h.1.2)) (λ h. (h.0, (h.1, h.2, h.3)))
      (says_way {P = λ d. (i : ℕ) × (j : ℕ) × BrokenAt f l d i j} (says_along e l X) (says_along e l Y))

-- ---- the verdict's tests

or_none : (b : Bool) → b ≡ (b || false)
or_none true = refl
or_none false = refl

-- one of two tests, at some pair
pair_or : (n m : ℕ) (p q : ℕ → ℕ → Bool) → some_pair n m (λ i j. p i j || q i j) ≡ (some_pair n m p || some_pair n m q)
pair_or n m p q =
    says_one
    (says_as
    (λ h. ⊎_elim (λ t. inl (h.0, h.1, h.2, h.3, t)) (λ t. inr (h.0, h.1, h.2, h.3, t)) h.4)
    (⊎_elim (λ h. (h.0, h.1, h.2, h.3, inl h.4)) (λ h. (h.0, h.1, h.2, h.3, inr h.4)))
    (says_pair n m (λ i j _ _. says_or (says_itself (p i j)) (says_itself (q i j)))))
    (says_or (says_pair n m (λ i j _ _. says_itself (p i j))) (says_pair n m (λ i j _ _. says_itself (q i j))))

-- a test that does not ask for the pair, before or at some pair
pair_and : (n m : ℕ) (b : Bool) (p : ℕ → ℕ → Bool) → (b && some_pair n m p) ≡ some_pair n m (λ i j. b && p i j)
pair_and n m true p = refl
pair_and n m false p = sym (fails (says_pair n m {p = λ i j. false} (λ i j _ _. says_itself false)) (λ h. false≢true h.4))

limit_is : (f : List ℕ) (l : Limit) → is_broken f l ≡ somewhere f l
unfolding until some_pair few uneven astray astray_column unbalanced
limit_is f Few = refl
limit_is f Slender = or_none (some_panel f (slender_panel f))
limit_is f Uneven = refl
limit_is f Astray = pair_or (bays f X + 1) (bays f Y + 1) (astray_along f X) (astray_along f Y)
limit_is f Heavy = or_none (heavy f)
limit_is f Unbalanced = pair_and (bays f X) (bays f Y) (is_everywhere (layout_of f)) (unequal_panel f) ∙ or_none (some_panel f (unbalanced_panel f))
limit_is f Thin = or_none (some_panel f (thin_panel f))

pub says_limit : (f : List ℕ) → refusal f ≡ 0 → (l : Limit) → Says (is_broken f l) (SomePlace f l)
says_limit f e l = subst (λ b. Says b (SomePlace f l)) (sym (limit_is f l)) (says_somewhere f e l)
