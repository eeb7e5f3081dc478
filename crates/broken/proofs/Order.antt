-- The list rises: each of its parts does, and what stands in one part stands before all that is in a later one. And two such lists of the same places
-- are one list.
--     rising_gathered, limit_rises     rising, by the form of the list
--     rising_one                       no second list
-- Assumes nothing.
use Prim.Native.Nat.{ℕ, zero, suc, ◌<◌}
use mathlib.Core.Bool.{Bool, true, false}
use mathlib.Core.List.{List, [], ◌∷◌, ◌++◌}
use mathlib.Core.Logic.{◌⊎◌, ◌↔◌, inl, inr, ⊎_elim}
use mathlib.Core.Path.{◌≡◌, refl, sym, ap, subst, ◌∙◌}
use native.Mathlib.Omega.{arith}
use Rattle.plan.specs.declared.ways.Way.{Way}
use Rattle.plan.specs.declared.ways.Way.TheVariants.{X, Y}
use Rattle.plan.specs.Plan.{bays_of}
use Rattle.limits.specs.declared.Limit.{Limit}
use Rattle.limits.specs.Places.{extent, broken_at}
use Rattle.broken.specs.declared.Place.{Place}
use Rattle.broken.specs.Listing.{gathered, whether, place, one_place, row_places, places_along, limit_places}
use Rattle.broken.specs.Meaning.{Among, Then, Before, Rising}
use Rattle.broken.specs.Meaning.Among.{here, there}
use Rattle.broken.proofs.Members.{among_split, gathered_at, whether_holds, none_in}

-- all of a stand before all of b
abbrev pub AllBefore : List Place → List Place → Type 0
AllBefore a b = (p q : Place) → Among p a → Among q b → Before p q

rising_append : (a : List Place) {b : List Place} → Rising a → Rising b → AllBefore a b → Rising (a ++ b)
rising_append [] ra rb h = rb
rising_append (p ∷ a) ra rb h =
    (λ q m. ⊎_elim (ra.0 q) (h p q here) (among_split a m), rising_append a ra.1 rb (λ x y hx hy. h x y (there hx) hy))

pub rising_gathered : (n : ℕ) (g : ℕ → List Place) → ((k : ℕ) → Rising (g k)) → ((k m : ℕ) → k < m → m < n → AllBefore (g k) (g m)) → Rising (gathered n g)
unfolding gathered
rising_gathered zero g r h = tt
rising_gathered (suc n) g r h =
    rising_append (gathered n g) (rising_gathered n g r (λ k m l hm. h k m l (omega arith))) (r n)
    (λ p q hp hq. let (k, l, at) = gathered_at n g hp in h k n l (omega arith) p q at hq)

rising_whether : (b : Bool) (p : Place) → Rising (whether b p)
rising_whether true p = (λ q h. absurd (none_in h), tt)
rising_whether false p = tt

-- ---- the places of a limit

module _ (f : List ℕ) (l : Limit) where
  row_rises : (d : Way) (j : ℕ) → Rising (row_places f l d j)
  unfolding row_places
  row_rises d j =
      rising_gathered (extent l d (bays_of f)).x (one_place f l d j) (λ i. rising_whether (broken_at f l d i j) (place l d i j))
      (λ i k h _ p q hp hq.
      let ep = (whether_holds (broken_at f l d i j) hp).1 in
      let eq = (whether_holds (broken_at f l d k j) hq).1 in
      rw (ep, eq) (inr (refl, inr (refl, inr (refl, h)))))

  -- a place of row j
  row_of : (d : Way) (j : ℕ) {p : Place} → Among p (row_places f l d j) → (i : ℕ) × (p ≡ place l d i j)
  unfolding row_places
  row_of d j h =
      let (i, _, w) = gathered_at (extent l d (bays_of f)).x (one_place f l d j) h in (i, (whether_holds (broken_at f l d i j) w).1)

  along_rises : (d : Way) → Rising (places_along f l d)
  unfolding places_along
  along_rises d =
      rising_gathered (extent l d (bays_of f)).y (row_places f l d) (row_rises d)
      (λ j k h _ p q hp hq. rw ((row_of d j hp).1, (row_of d k hq).1) (inr (refl, inr (refl, inl h))))

  -- a place along d
  along_of : (d : Way) {p : Place} → Among p (places_along f l d) → (i j : ℕ) × (p ≡ place l d i j)
  unfolding places_along
  along_of d h =
      let (j, _, r) = gathered_at (extent l d (bays_of f)).y (row_places f l d) h in let (i, e) = row_of d j r in (i, j, e)

  pub limit_rises : Rising (limit_places f l)
  unfolding limit_places
  limit_rises =
      rising_append (places_along f l X) (along_rises X) (along_rises Y)
      (λ p q hp hq. rw ((along_of X hp).2, (along_of Y hq).2) (inr (refl, inl (omega arith))))

  -- a place of the limit
  pub limit_of_lem : {p : Place} → Among p (limit_places f l) → p.limit ≡ l
  unfolding limit_places
  limit_of_lem h =
      ⊎_elim (λ x. ap (λ (q : Place). q.limit) (along_of X x).2) (λ y. ap (λ (q : Place). q.limit) (along_of Y y).2) (among_split (places_along f l X) h)

-- ---- one list

then_asym : {a b : ℕ} {R S : Type 0} → (R → S → ⊥) → Then a b R → Then b a S → ⊥
then_asym n (inl h) (inl k) = omega arith
then_asym n (inl h) (inr k) = omega (arith, k.0)
then_asym n (inr h) (inl k) = omega (arith, h.0)
then_asym n (inr h) (inr k) = n h.1 k.1

before_asym : (p q : Place) → Before p q → Before q p → ⊥
before_asym p q = then_asym (then_asym (then_asym (λ h k. omega (arith, h, k))))

-- the head, or in the tail
head_or_tail : {p q : Place} {ps : List Place} → Among p (q ∷ ps) → (p ≡ q) ⊎ Among p ps
head_or_tail here = inl refl
head_or_tail (there h) = inr h

pub rising_one : (a b : List Place) → Rising a → Rising b → ((p : Place) → Among p a ↔ Among p b) → a ≡ b
rising_one [] [] ra rb h = refl
rising_one [] (q ∷ b) ra rb h = absurd (none_in ((h q).1 here))
rising_one (p ∷ a) [] ra rb h = absurd (none_in ((h p).0 here))
rising_one (p ∷ a) (q ∷ b) ra rb h = rw (heads, rising_one a b ra.1 rb.1 tails)
  where
    -- otherwise each head would stand before the other
    heads : p ≡ q
    heads =
        ⊎_elim (λ e. e) (λ k. ⊎_elim (λ e. sym e) (λ m. absurd (before_asym p q (ra.0 q m) (rb.0 p k))) (head_or_tail ((h q).1 here)))
        (head_or_tail ((h p).0 here))

    -- no head stands in its own tail
    fresh : (x : Place) {ps : List Place} → Rising (x ∷ ps) → ¬ Among x ps
    fresh x r m = before_asym x x (r.0 x m) (r.0 x m)

    tails : (x : Place) → Among x a ↔ Among x b
    tails x = (
      λ m. ⊎_elim (λ e. absurd (fresh p ra (subst (λ (y : Place). Among y a) (e ∙ sym heads) m))) (λ k. k) (head_or_tail ((h x).0 (there m))),
      λ m. ⊎_elim (λ e. absurd (fresh q rb (subst (λ (y : Place). Among y b) (e ∙ heads) m))) (λ k. k) (head_or_tail ((h x).1 (there m))),
    )
