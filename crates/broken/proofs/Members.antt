-- What is in the list: by the form of the list, a place of each limit that breaks it, and no other.
--     among_split, gathered_at       a place of a list that was put together is in one of its parts
--     among_left, .., at_gathered    and the other way round
--     limit_holds, limit_has         the places of a limit are those that break it
--     none_in, no_more               nothing is in the empty list, and in no other list
-- Assumes nothing.
use Prim.Native.Nat.{ℕ, zero, suc, ◌<◌}
use mathlib.Core.Bool.{Bool, true, false}
use mathlib.Core.List.{List, [], ◌∷◌, ◌++◌}
use mathlib.Core.Logic.{◌⊎◌, inl, inr, ⊎_elim}
use mathlib.Core.Path.{◌≡◌, refl}
use native.Mathlib.Decide.{dec_lt}
use native.Mathlib.Nat.{not-suc-le-zero}
use native.Mathlib.Omega.{arith}
use lib.ListN.{length}
use Rattle.numbers.specs.Tests.{Some}
use Rattle.plan.specs.declared.ways.Way.{Way}
use Rattle.plan.specs.declared.ways.Way.TheVariants.{X, Y}
use Rattle.plan.specs.Plan.{bays_of}
use Rattle.floor.specs.Refusal.{refusal}
use Rattle.limits.specs.declared.Limit.{Limit}
use Rattle.limits.specs.Places.{extent, broken_at}
use Rattle.limits.specs.Meaning.{BrokenAt}
use Rattle.limits.proofs.Places.{place_in, in_place, says_at}
use Rattle.broken.specs.declared.Place.{Place}
use Rattle.broken.specs.Listing.{gathered, whether, place, one_place, row_places, places_along, limit_places}
use Rattle.broken.specs.Meaning.{Among}
use Rattle.broken.specs.Meaning.Among.{here, there}

-- ---- lists put together

module _ {p : Place} where
  pub among_left : {a : List Place} (b : List Place) → Among p a → Among p (a ++ b)
  among_left b here = here
  among_left b (there h) = there (among_left b h)

  pub among_right : (a : List Place) {b : List Place} → Among p b → Among p (a ++ b)
  among_right [] h = h
  among_right (q ∷ a) h = there (among_right a h)

  pub among_split : (a : List Place) {b : List Place} → Among p (a ++ b) → Among p a ⊎ Among p b
  among_split [] h = inr h
  among_split (q ∷ a) here = inl here
  among_split (q ∷ a) (there h) = ⊎_elim (λ l. inl (there l)) (λ r. inr r) (among_split a h)

  pub gathered_at : (n : ℕ) (g : ℕ → List Place) → Among p (gathered n g) → Some n (λ k. Among p (g k))
  unfolding gathered
  gathered_at zero g h = elim h [ ]
  gathered_at (suc n) g h =
      ⊎_elim (λ l. let r = gathered_at n g l in (r.0, omega (arith, r.1), r.2)) (λ r. (n, omega arith, r)) (among_split (gathered n g) h)

  pub at_gathered : (n : ℕ) (g : ℕ → List Place) (k : ℕ) → k < n → Among p (g k) → Among p (gathered n g)
  unfolding gathered
  at_gathered zero g k l h = absurd (not-suc-le-zero l)
  at_gathered (suc n) g k l h =
      elim (dec_lt k n) [
        | yes m ↦ among_left (g n) (at_gathered n g k m h)
        | no m ↦ let e : k ≡ n = omega arith in among_right (gathered n g) (rw e at h)
      ]

pub whether_holds : (b : Bool) {p q : Place} → Among q (whether b p) → (b ≡ true) × (q ≡ p)
whether_holds true here = (refl, refl)
whether_holds true (there h) = elim h [ ]
whether_holds false h = elim h [ ]

whether_has : {b : Bool} {p : Place} → b ≡ true → Among p (whether b p)
whether_has e = rw e here

pub among_some : {p : Place} {ps : List Place} → Among p ps → 0 < length ps
among_some here = omega arith
among_some (there h) = omega arith

pub none_in : {p : Place} → ¬ Among p []
none_in h = omega (arith, among_some h)

pub no_more : (ps : List Place) → ((p : Place) → ¬ Among p ps) → ps ≡ []
no_more [] h = refl
no_more (p ∷ ps) h = absurd (h p here)

-- ---- the places of a limit

-- p is place (d, i, j) of limit l, and breaks it
abbrev pub Standing : List ℕ → Limit → Place → Type 0
Standing f l p = (d : Way) × (i : ℕ) × (j : ℕ) × (p ≡ place l d i j) × BrokenAt f l d i j

module _ (f : List ℕ) (e : refusal f ≡ 0) (l : Limit) where
  along_holds : (d : Way) {p : Place} → Among p (places_along f l d) → Standing f l p
  unfolding places_along row_places
  along_holds d h =
      let (j, hj, r) = gathered_at (extent l d (bays_of f)).y (row_places f l d) h in
      let (i, hi, w) = gathered_at (extent l d (bays_of f)).x (one_place f l d j) r in
      let (t, q) = whether_holds (broken_at f l d i j) w in
      let at = in_place f l d hi hj in
      (d, i, j, q, (at, (says_at f e l d i j at).holds t))

  along_has : (d : Way) (i j : ℕ) → BrokenAt f l d i j → Among (place l d i j) (places_along f l d)
  unfolding places_along row_places
  along_has d i j (at, b) =
      let (hi, hj) = place_in f l d at in
      at_gathered (extent l d (bays_of f)).y (row_places f l d) j hj
      (at_gathered (extent l d (bays_of f)).x (one_place f l d j) i hi (whether_has ((says_at f e l d i j at).passes b)))

  pub limit_holds : {p : Place} → Among p (limit_places f l) → Standing f l p
  unfolding limit_places
  limit_holds h = ⊎_elim (along_holds X) (along_holds Y) (among_split (places_along f l X) h)

  pub limit_has : (d : Way) (i j : ℕ) → BrokenAt f l d i j → Among (place l d i j) (limit_places f l)
  unfolding limit_places
  limit_has X i j b = among_left (places_along f l Y) (along_has X i j b)
  limit_has Y i j b = among_right (places_along f l X) (along_has Y i j b)
