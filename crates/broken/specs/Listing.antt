-- "Order: limit, then direction, then j, then i, rising": the list as it is worked out. What it promises is said in `Meaning`.
-- Assumes nothing.
use Rattle.std.specs.Prelude.{ℕ, zero, suc, Bool, cond, List, [], ◌∷◌, ◌++◌}
use Rattle.plan.specs.declared.ways.Way.{Way}
use Rattle.plan.specs.declared.ways.Way.TheVariants.{X, Y}
use Rattle.plan.specs.Plan.{bays_of}
use Rattle.limits.specs.declared.Limit.{Limit}
use Rattle.limits.specs.Places.{limit_at, extent, broken_at}
use Rattle.broken.specs.declared.Place.{Place}

-- g 0, g 1 and so on, up to the one before g n, joined
unfoldable pub gathered : ℕ → (ℕ → List Place) → List Place
gathered zero g = []
gathered (suc n) g = gathered n g ++ g n

-- p, where b is true
abbrev pub whether : Bool → Place → List Place
whether b p = cond b (p ∷ []) []

abbrev pub place : Limit → Way → ℕ → ℕ → Place
place l d i j = record { limit = l; way = d; i = i; j = j }

-- place (i, j), where it breaks the limit; j first, because a row has one j
abbrev pub one_place : List ℕ → Limit → Way → ℕ → ℕ → List Place
one_place f l d j i = whether (broken_at f l d i j) (place l d i j)

-- row j of a limit's places along d, by rising i
unfoldable pub row_places : List ℕ → Limit → Way → ℕ → List Place
row_places f l d j = gathered (extent l d (bays_of f)).x (one_place f l d j)

-- row after row
unfoldable pub places_along : List ℕ → Limit → Way → List Place
places_along f l d = gathered (extent l d (bays_of f)).y (row_places f l d)

-- along x, then along y
unfoldable pub limit_places : List ℕ → Limit → List Place
limit_places f l = places_along f l X ++ places_along f l Y

-- limit after limit
unfoldable pub places_of : List ℕ → List Place
places_of f = gathered 7 (λ k. limit_places f (limit_at k))
