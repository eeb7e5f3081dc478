-- "Value: how many places. Refusals: 1 to 7, then 25: the slice is too short for this floor's places. A refusal writes nothing, and what lies past the
-- places stays."
-- That this is what `PlacesAnswer` describes, and nothing else is, is proved in proofs/Answers.
-- Assumes nothing.
use Rattle.std.specs.Prelude.{ℕ, ◌*◌, ◌≤◌, Bool, cond, List, [], ◌∷◌, ◌++◌, ◌≡◌, leb, eqb, length}
use Rattle.numbers.specs.Chains.{Chain, tried, GivenBy}
use Rattle.numbers.specs.Chains.Check.{◌unless◌says◌}
use Rattle.floor.specs.Refusal.{floor_checks}
use Rattle.answers.specs.declared.Answer.{Answer}
use Rattle.answers.specs.Answers.{answer}
use Rattle.broken.specs.declared.Place.{Place}
use Rattle.broken.specs.Numbers.{place_width, listed_in}
use Rattle.broken.specs.Listing.{places_of}
use Rattle.broken.specs.Meaning.{Places}

-- n numbers have room for the places of floor f; on an accepted floor, and 25 is tried on no other, `places_of f` is the one list with `Places f`
unfoldable pub has_room : List ℕ → ℕ → Bool
has_room f n = leb (length (places_of f) * place_width) n

abbrev pub HasRoom : List ℕ → ℕ → Type 0
HasRoom f n = length (places_of f) * place_width ≤ n

-- 25 "the slice is too short for this floor's places"
unfoldable pub places_checks : List ℕ → ℕ → Chain
places_checks f n = floor_checks f ++ (25 unless has_room f n says HasRoom f n ∷ [])

unfoldable pub places_refusal : List ℕ → ℕ → ℕ
places_refusal f n = tried (places_checks f n)

-- the answer, of a slice of n numbers
unfoldable pub places_answer : List ℕ → ℕ → Answer
places_answer f n = cond (eqb (places_refusal f n) 0) (answer 0 (length (places_of f))) (answer (places_refusal f n) 0)

-- the slice afterwards
unfoldable pub places_left : List ℕ → List ℕ → List ℕ
places_left f t = cond (eqb (places_refusal f (length t)) 0) (listed_in (places_of f) t) t

-- what the call promises, of floor f and slice t: the answer, and the slice afterwards
pub record Placed (f t : List ℕ) (a : Answer) (t' : List ℕ) : Type 0 where
  pub answer : a ≡ places_answer f (length t)
  pub slice : t' ≡ places_left f t

-- the same by statements
pub record PlacesAnswer (f t : List ℕ) (a : Answer) (t' : List ℕ) : Type 0 where
  pub given : GivenBy (places_checks f (length t)) a.refusal
  pub refused : ¬ (a.refusal ≡ 0) → (a.value ≡ 0) × (t' ≡ t)
  pub listed : a.refusal ≡ 0 → (ps : List Place) × Places f ps × (a.value ≡ length ps) × (t' ≡ listed_in ps t)

-- so many numbers always suffice (proofs/Most): a floor of 12 by 12 bays that is broken wherever it can be has 793 places
abbrev pub places_most : ℕ
places_most = 3172
