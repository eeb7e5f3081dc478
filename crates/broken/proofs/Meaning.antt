-- The list is the floor's places, and no other list is; the sum of the limits listed is the verdict, and none is listed exactly where the floor is clear.
--     places_are, places_one     the list, and no second one
--     listed_broken              the sum of the limits listed says which limits are broken
--     none_listed                none is listed exactly where no limit is broken
-- Assumes nothing.
use Prim.Native.Nat.{ℕ, ◌<◌}
use mathlib.Core.Bool.{Bool, true, cond}
use mathlib.Core.List.{List, [], ◌∷◌}
use mathlib.Core.Logic.{◌⊎◌, ◌↔◌, inl, inr, ⊎_elim}
use mathlib.Core.Path.{◌≡◌, refl, sym, ap, subst, ◌∙◌}
use native.Mathlib.Omega.{arith}
use lib.Dec.{eqb, ltb}
use lib.ListN.{length}
use Rattle.numbers.specs.Tests.{until, all, Says}
use Rattle.numbers.proofs.Tests.{at, says_eq, says_or, says_as, says_never, says_lt}
use Rattle.floor.specs.Refusal.{refusal}
use Rattle.limits.specs.declared.Limit.{Limit}
use Rattle.limits.specs.declared.Limit.TheVariants.{Few, Slender, Uneven, Astray, Heavy, Unbalanced, Thin}
use Rattle.limits.specs.Places.{limit_at}
use Rattle.limits.specs.Meaning.{number, BrokenAt, SomePlace, Broken, Clear}
use Rattle.limits.proofs.Digits.{digits, sum_most, says_digit}
use Rattle.broken.specs.declared.Place.{Place}
use Rattle.broken.specs.Listing.{limit_places, places_of}
use Rattle.broken.specs.Meaning.{Among, Places, lists, limits_listed}
use Rattle.broken.specs.Meaning.Among.{here, there}
use Rattle.broken.proofs.Members.{gathered_at, at_gathered, among_some, no_more, limit_holds, limit_has}
use Rattle.broken.proofs.Order.{rising_gathered, limit_rises, limit_of_lem, rising_one}

-- ---- the limits by their numbers

-- each is one of the seven
ranked : (l : Limit) → (k : ℕ) × (k < 7) × (limit_at k ≡ l)
ranked Few = (0, omega arith, refl)
ranked Slender = (1, omega arith, refl)
ranked Uneven = (2, omega arith, refl)
ranked Astray = (3, omega arith, refl)
ranked Heavy = (4, omega arith, refl)
ranked Unbalanced = (5, omega arith, refl)
ranked Thin = (6, omega arith, refl)

-- their numbers rise
numbers_rise : (k m : ℕ) → k < m → m < 7 → number (limit_at k) < number (limit_at m)
unfolding until
numbers_rise k m h l =
    let rises : ℕ → ℕ → Bool = λ i j. ltb (number (limit_at i)) (number (limit_at j)) in
    let t : all 7 (λ j. all j (λ i. rises i j)) ≡ true = refl in
    (says_lt (number (limit_at k)) (number (limit_at m))).holds (at m k (λ i. rises i m) (at 7 m (λ j. all j (λ i. rises i j)) t l) h)

-- and no two limits have one number
abbrev limit_of : ℕ → Limit
limit_of n =
    cond (eqb n 1) Few (cond (eqb n 2) Slender (cond (eqb n 4) Uneven (cond (eqb n 8) Astray (cond (eqb n 16) Heavy (cond (eqb n 32) Unbalanced Thin)))))

named : (l : Limit) → limit_of (number l) ≡ l
named Few = refl
named Slender = refl
named Uneven = refl
named Astray = refl
named Heavy = refl
named Unbalanced = refl
named Thin = refl

number_one : (k l : Limit) → number k ≡ number l → k ≡ l
number_one k l e = sym (named k) ∙ ap limit_of e ∙ named l

-- ---- the list

module _ (f : List ℕ) (e : refusal f ≡ 0) where
  listed_holds : (p : Place) → Among p (places_of f) → BrokenAt f p.limit p.way p.i p.j
  unfolding places_of
  listed_holds p h =
      let (k, _, m) = gathered_at 7 (λ i. limit_places f (limit_at i)) h in
      let (d, i, j, q, b) = limit_holds f e (limit_at k) m in
      subst (λ (x : Place). BrokenAt f x.limit x.way x.i x.j) (sym q) b

  broken_listed : (p : Place) → BrokenAt f p.limit p.way p.i p.j → Among p (places_of f)
  unfolding places_of
  broken_listed p b =
      let (k, h, q) = ranked p.limit in
      at_gathered 7 (λ i. limit_places f (limit_at i)) k h (rw q (limit_has f e p.limit p.way p.i p.j b))

  pub places_are : Places f (places_of f)
  unfolding places_of
  places_are =
      record {
        exactly = λ p. (listed_holds p, broken_listed p);
        rising = rising_gathered 7 (λ k. limit_places f (limit_at k)) (λ k. limit_rises f (limit_at k))
            (λ k m h l p q hp hq. inl (rw (limit_of_lem f (limit_at k) hp, limit_of_lem f (limit_at m) hq) (numbers_rise k m h l)));
      }

pub places_one : {f : List ℕ} {a b : List Place} → Places f a → Places f b → a ≡ b
places_one {a = a} {b} p q =
    rising_one a b p.rising q.rising (λ x. (λ h. (q.exactly x).1 ((p.exactly x).0 h), λ h. (p.exactly x).1 ((q.exactly x).0 h)))

-- ---- what the list says of the verdict

-- its head, or in its tail, with the same limit
split : {p q : Place} {ps : List Place} {n : ℕ} → Among q (p ∷ ps) → number q.limit ≡ n → (number p.limit ≡ n) ⊎ ((r : Place) × Among r ps × (number r.limit ≡ n))
split here e = inl e
split {q = q} (there h) e = inr (q, h, e)

says_lists : (ps : List Place) (l : Limit) → Says (lists ps l) ((p : Place) × Among p ps × (number p.limit ≡ number l))
says_lists [] l = says_as (λ h. absurd h) (λ h. absurd (omega (arith, among_some h.1))) says_never
says_lists (p ∷ ps) l =
    says_as (⊎_elim (λ q. (p, here, q)) (λ h. (h.0, there h.1, h.2))) (λ h. split h.1 h.2) (says_or (says_eq (number p.limit) (number l)) (says_lists ps l))

module _ {f : List ℕ} {ps : List Place} (h : Places f ps) where
  says_listed : (l : Limit) → Says (lists ps l) (SomePlace f l)
  says_listed l =
      says_as
      (λ q. let (p, m, n) = q in
      (p.way, p.i, p.j, subst (λ (k : Limit). BrokenAt f k p.way p.i p.j) (number_one p.limit l n) ((h.exactly p).0 m)))
      (λ q. let (d, i, j, b) = q in
      let p : Place = record { limit = l; way = d; i = i; j = j } in (p, (h.exactly p).1 b, refl))
      (says_lists ps l)

  -- "the sum of the limits listed is the verdict"
  pub listed_broken : Broken f (limits_listed ps)
  listed_broken = record { parts = λ l. says_digit (says_listed l) (digits (lists ps) l); most = sum_most (lists ps) }

  -- "none is listed exactly when the floor is clear"
  pub none_listed : (length ps ≡ 0) ↔ Clear f
  none_listed = (
    λ z l q. let (d, i, j, b) = q in
        let p : Place = record { limit = l; way = d; i = i; j = j } in omega (arith, z, among_some ((h.exactly p).1 b)),
    λ c. ap (λ (qs : List Place). length qs) (no_more ps (λ p m. c p.limit (p.way, p.i, p.j, (h.exactly p).0 m))),
  )
