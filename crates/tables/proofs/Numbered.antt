-- The records below record_count and the places of the floor are the same things (InLines), and how many there are at most.
-- Assumes nothing.
use Prim.Native.Nat.{ℕ, ◌+◌, ◌*◌, ◌<◌, ◌≤◌}
use mathlib.Core.List.{List}
use mathlib.Core.Path.{◌≡◌, refl, ◌∙◌}
use Rattle.numbers.proofs.Bounded.{◌⊕◌, ◌⊗◌, #}
use Rattle.plan.specs.declared.ways.Way.{Way}
use Rattle.plan.specs.declared.ways.Way.TheVariants.{X, Y}
use Rattle.plan.specs.Ways.{pick}
use Rattle.plan.specs.declared.read.Bays.{Bays}
use Rattle.plan.specs.Plan.{bays, last_line, bays_of}
use Rattle.plan.specs.Asked.{Sized}
use Rattle.plan.proofs.Reading.{bays_most}
use Rattle.tables.specs.Places.{Place, InsideOf, Inside, records_of, record_count, line_first_in, first_of, line_first, number_of, place_of, place_among}
use Rattle.tables.specs.Asked.{Bayed}
use Rattle.tables.proofs.InLines.{line_ends, below_count, its_place, one_place, covered}

-- thirteen lines of twelve spans
pub frames_most : {m n : ℕ} → m ≤ 12 → n ≤ 12 → (m + 1) * n ≤ 156
frames_most hm hn = (hm ⊕ # 1) ⊗ hn

module _ {b : Bays} (h : Bayed b) where
  pub along_most : (d : Way) → pick d b.x b.y ≤ 12
  along_most X = h.x
  along_most Y = h.y

-- by a floor's bays, or by the floor
pub line_first_is : (f : List ℕ) (d : Way) (l : ℕ) → line_first_in (bays_of f) d l ≡ line_first f d l
line_first_is f X l = refl
line_first_is f Y l = refl

-- the bays at hand are a floor's
module _ {f : List ℕ} {b : Bays} (h : Sized f b) where
  pub bayed : Bayed b
  bayed = record { x = h.x_most; y = h.y_most }

  pub counted : {n : ℕ} → n ≡ records_of b → n ≡ record_count f
  unfolding record_count
  counted e = e ∙ rw h.is

  pub found_at : (k : ℕ) → place_among b k ≡ place_of f k
  unfolding place_of
  found_at k = rw h.is

  pub line_starts : {n : ℕ} (d : Way) (l : ℕ) → n ≡ line_first_in b d l → n ≡ line_first f d l
  line_starts d l e = e ∙ rw h.is (line_first_is f d l)

module _ (f : List ℕ) where
  -- the lines of y end where the table does
  pub lines_sum_y : first_of f Y + (last_line f Y + 1) * bays f Y ≡ record_count f
  unfolding record_count
  lines_sum_y = refl

  pub count_most : record_count f ≤ 312
  unfolding record_count
  count_most = frames_most (bays_most f Y) (bays_most f X) ⊕ frames_most (bays_most f X) (bays_most f Y)

  -- a line ends within the table
  pub line_below : (d : Way) (l : ℕ) → l ≤ last_line f d → line_first f d l + bays f d ≤ record_count f
  unfolding record_count
  line_below d l h = line_ends (bays f) (last_line f) d l h

  inside_of : {p : Place} → Inside f p → InsideOf (bays f) (last_line f) p
  inside_of h = record { line = h.line; span = h.span }

  pub number_below : {p : Place} → Inside f p → number_of f p < record_count f
  unfolding record_count
  number_below h = below_count (bays f) (last_line f) (inside_of h)

  pub number_place : {p : Place} → Inside f p → place_of f (number_of f p) ≡ p
  unfolding place_of
  number_place h = its_place (bays f) (last_line f) (inside_of h)

  -- no two places have one number
  pub one_number : {p q : Place} → Inside f p → Inside f q → number_of f p ≡ number_of f q → p ≡ q
  one_number hp hq e = one_place (bays f) (last_line f) (inside_of hp) (inside_of hq) e

  module _ {k : ℕ} (h : k < record_count f) where
    -- every record is of a place of the floor, and of the one that has its number
    pub place_inside : Inside f (place_of f k)
    unfolding place_of record_count
    place_inside = let c = (covered (bays f) (last_line f) h).0 in record { line = c.line; span = c.span }

    pub place_number : number_of f (place_of f k) ≡ k
    unfolding place_of record_count
    place_number = (covered (bays f) (last_line f) h).1
