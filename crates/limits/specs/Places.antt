-- The places of each limit, by direction, i and j, and the test at each.
-- That these are the places of `Meaning`, and that the verdict's tests find one exactly where there is one, is proved in proofs/Places.
-- Assumes nothing.
use Rattle.std.specs.Prelude.{ℕ, ◌+◌, ◌-◌, Bool, List, [], ◌∷◌, get_or}
use Rattle.plan.specs.declared.ways.Way.{Way}
use Rattle.plan.specs.declared.ways.Way.TheVariants.{X, Y}
use Rattle.plan.specs.declared.read.Bays.{Bays}
use Rattle.plan.specs.Ways.{pick}
use Rattle.plan.specs.Plan.{bays}
use Rattle.limits.specs.declared.Limit.{Limit}
use Rattle.limits.specs.declared.Limit.TheVariants.{Few, Slender, Uneven, Astray, Heavy, Unbalanced, Thin}
use Rattle.limits.specs.Limits.{too_few, slender_panel, unlike_next, astray_along, heavy, unbalanced_panel, thin_panel}

-- the limits by their numbers, rising; Thin from 6 on
abbrev pub limit_at : ℕ → Limit
limit_at k = get_or (Few ∷ Slender ∷ Uneven ∷ Astray ∷ Heavy ∷ Unbalanced ∷ []) k Thin

-- so many i, and so many j
abbrev sized : ℕ → ℕ → Bays
sized x y = record { x = x; y = y }

-- a limit without a direction has its places under x, and none under y
abbrev pub undirected : Way → Bays → Bays
undirected X b = b
undirected Y b = sized 0 0

-- how many i and how many j a limit's places along d have, on a floor of these bays
abbrev pub extent : Limit → Way → Bays → Bays
extent Few d b = sized 1 1
extent Slender d b = undirected d b
extent Uneven d b = sized (pick d (b.x - 1) 1) (pick d 1 (b.y - 1))
extent Astray d b = sized (b.x + 1) (b.y + 1)
extent Heavy d b = undirected d (sized 1 1)
extent Unbalanced d b = undirected d b
extent Thin d b = undirected d b

-- the test at a place
abbrev pub broken_at : List ℕ → Limit → Way → ℕ → ℕ → Bool
broken_at f Few d i j = too_few (bays f d)
broken_at f Slender d i j = slender_panel f i j
broken_at f Uneven d i j = unlike_next f d (pick d i j)
broken_at f Astray d i j = astray_along f d i j
broken_at f Heavy d i j = heavy f
broken_at f Unbalanced d i j = unbalanced_panel f i j
broken_at f Thin d i j = thin_panel f i j
