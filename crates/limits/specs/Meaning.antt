-- "The verdict", sentence by sentence: what a place of each limit is, what breaks the limit there, and the number that says which limits are broken.
-- A limit is broken where there is a place that breaks it: verdict and list of places speak of the same places.
-- That the tests of `Limits` say these statements, and that `verdict` is that number and the only one, is proved in proofs/Places and proofs/Meaning.
-- Assumes nothing.
use Rattle.std.specs.Prelude.{ℕ, ◌+◌, ◌*◌, ◌-◌, ◌/◌, ◌%◌, ◌≤◌, ◌<◌, min, max, List, ◌⊎◌, ◌↔◌, ◌≡◌}
use Rattle.plan.specs.declared.ways.Way.{Way}
use Rattle.plan.specs.declared.ways.Way.TheVariants.{X, Y}
use Rattle.plan.specs.Ways.{pick}
use Rattle.plan.specs.Plan.{bays, thickness, dead, live, span, offset}
use Rattle.layouts.specs.Meaning.{EachLine, Beamed}
use Rattle.lines.specs.Lines.{pair_alpha}
use Rattle.lines.specs.Meaning.{PanelEnough}
use Rattle.limits.specs.declared.Limit.{Limit}
use Rattle.limits.specs.declared.Limit.TheVariants.{Few, Slender, Uneven, Astray, Heavy, Unbalanced, Thin}

-- the number that a limit adds to the verdict
abbrev pub number : Limit → ℕ
number Few = 1
number Slender = 2
number Uneven = 4
number Astray = 8
number Heavy = 16
number Unbalanced = 32
number Thin = 64

-- ---- what a place is: a direction d, i and j

-- a limit without a direction has its places under x, which is written 0
abbrev pub Undirected : Way → Type 0
Undirected X = Unit
Undirected Y = ⊥

-- the panel of x bay i and y bay j
abbrev pub PanelAt : List ℕ → Way → ℕ → ℕ → Type 0
PanelAt f d i j = Undirected d × (i < bays f X) × (j < bays f Y)

-- where the place is a direction or the floor, i and j are 0
abbrev pub Single : ℕ → ℕ → Type 0
Single i j = (i ≡ 0) × (j ≡ 0)

-- 1 a direction; 2, 32 and 64 a panel; 4 the first of two neighbouring spans in its direction, the other number 0; 8 the column on y line i and x line j,
-- with the direction in which it is off; 16 the floor
abbrev pub PlaceOf : List ℕ → Limit → Way → ℕ → ℕ → Type 0
PlaceOf f Few d i j = Single i j
PlaceOf f Slender d i j = PanelAt f d i j
PlaceOf f Uneven d i j = (pick d i j + 1 < bays f d) × (pick d j i ≡ 0)
PlaceOf f Astray d i j = (i ≤ bays f X) × (j ≤ bays f Y)
PlaceOf f Heavy d i j = Undirected d × Single i j
PlaceOf f Unbalanced d i j = PanelAt f d i j
PlaceOf f Thin d i j = PanelAt f d i j

-- ---- what breaks a limit

-- 4: "3(longer − shorter) > longer"
abbrev pub Unlike : ℕ → ℕ → Type 0
Unlike a b = max a b < 3 * (max a b - min a b)

-- 8: span s starts or ends at the k-th column along it
abbrev pub Adjoins : ℕ → ℕ → Type 0
Adjoins s k = (s ≡ k) ⊎ (s + 1 ≡ k)

-- a span along d that adjoins the k-th column along d is shorter than n
abbrev pub Exceeded : List ℕ → Way → ℕ → ℕ → Type 0
Exceeded f d k n = (s : ℕ) × (s < bays f d) × Adjoins s k × (span f d s < n)

-- 32: "p > 5q or q > 5p"
abbrev pub Unequal : ℕ → ℕ → Type 0
Unequal p q = (5 * q < p) ⊎ (5 * p < q)

abbrev pub Breaks : List ℕ → Limit → Way → ℕ → ℕ → Type 0
-- 1: "nx or ny below 3"
Breaks f Few d i j = bays f d < 3
-- 2: "in a panel, longer span > 2·shorter"
Breaks f Slender d i j = 2 * min (span f X i) (span f Y j) < max (span f X i) (span f Y j)
-- 4: "for neighbouring spans in a direction, 3(longer − shorter) > longer"
Breaks f Uneven d i j = Unlike (span f d (pick d i j)) (span f d (pick d i j + 1))
-- 8: "ten times an offset exceeds a span adjoining that column in its direction"; the column is i-th along x and j-th along y
Breaks f Astray d i j = Exceeded f d (pick d i j) (10 * offset f d i j)
-- 16: "L > 2D"
Breaks f Heavy d i j = 2 * dead f < live f
-- 32: "beams everywhere, and in a panel p > 5q or q > 5p, where p = (sum of α of its two x lines)·Y², q = (sum of α of its two y lines)·X²"
Breaks f Unbalanced d i j =
    EachLine f (Beamed f) × Unequal (pair_alpha f X j * (span f Y j * span f Y j)) (pair_alpha f Y i * (span f X i * span f X i))
-- 64: "t below some panel's least thickness": the slab's own thickness is not enough for that panel; what is enough stays so for every greater t
Breaks f Thin d i j = ¬ PanelEnough f i j (thickness f)

-- ---- what is broken

abbrev pub BrokenAt : List ℕ → Limit → Way → ℕ → ℕ → Type 0
BrokenAt f l d i j = PlaceOf f l d i j × Breaks f l d i j

-- limit l is broken: there is a place
abbrev pub SomePlace : List ℕ → Limit → Type 0
SomePlace f l = (d : Way) × (i : ℕ) × (j : ℕ) × BrokenAt f l d i j

-- "A sum of what is broken": for example, 4 is part of v exactly where limit 4 is broken; and v has no other parts
pub record Broken (f : List ℕ) (v : ℕ) : Type 0 where
  pub parts : (l : Limit) → (v / number l % 2 ≡ 1) ↔ SomePlace f l
  pub most : v ≤ 127

-- no limit is broken
abbrev pub Clear : List ℕ → Type 0
Clear f = (l : Limit) → ¬ SomePlace f l
