-- "A place is listed exactly where its limit's statement holds there, each once, in that order."
-- That the list of `Listing` is such a list, and that there is no other, is proved in proofs/Meaning.
-- Assumes nothing.
use Rattle.std.specs.Prelude.{ℕ, ◌<◌, Bool, false, ◌||◌, List, [], ◌∷◌, ◌⊎◌, ◌↔◌, ◌≡◌, eqb}
use Rattle.plan.specs.Ways.{pick}
use Rattle.limits.specs.declared.Limit.{Limit}
use Rattle.limits.specs.Limits.{sum_picked}
use Rattle.limits.specs.Meaning.{number, BrokenAt}
use Rattle.broken.specs.declared.Place.{Place}

-- by this name where a span's place in the table is a place too
abbrev pub PlaceList : Type 0
PlaceList = List Place

-- p is in the list
pub data Among : Place → List Place → Type 0 where
  here : {p : Place} {ps : List Place} → Among p (p ∷ ps)
  there : {p q : Place} {ps : List Place} → Among p ps → Among p (q ∷ ps)

-- a is below b, or they are equal and R decides
abbrev pub Then : ℕ → ℕ → Type 0 → Type 0
Then a b R = (a < b) ⊎ ((a ≡ b) × R)

-- "Order: limit, then direction, then j, then i, rising"
abbrev pub Before : Place → Place → Type 0
Before p q = Then (number p.limit) (number q.limit) (Then (pick p.way 0 1) (pick q.way 0 1) (Then p.j q.j (p.i < q.i)))

-- each place stands before all that follow it; so none stands there twice
abbrev pub Rising : List Place → Type 0
Rising [] = Unit
Rising (p ∷ ps) = ((q : Place) → Among q ps → Before p q) × Rising ps

-- the places of floor f
pub record Places (f : List ℕ) (ps : List Place) : Type 0 where
  pub exactly : (p : Place) → Among p ps ↔ BrokenAt f p.limit p.way p.i p.j
  pub rising : Rising ps

-- limit l is listed
abbrev pub lists : List Place → Limit → Bool
lists [] l = false
lists (p ∷ ps) l = eqb (number p.limit) (number l) || lists ps l

-- "the sum of the limits listed", each counted once
abbrev pub limits_listed : List Place → ℕ
limits_listed ps = sum_picked (lists ps)
