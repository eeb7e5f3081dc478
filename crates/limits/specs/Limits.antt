-- "The verdict": "A sum of what is broken; equality always passes."
-- Assumes nothing.
use Rattle.std.specs.Prelude.{ℕ, ◌+◌, ◌*◌, ◌-◌, min, max, Bool, cond, ◌||◌, ◌&&◌, List, ltb, eqb}
use Rattle.numbers.specs.Tests.{some}
use Rattle.plan.specs.declared.ways.Way.{Way}
use Rattle.plan.specs.declared.ways.Way.TheVariants.{X, Y}
use Rattle.plan.specs.Ways.{pick}
use Rattle.plan.specs.Plan.{bays, thickness, dead, live, span, offset}
use Rattle.layouts.specs.Layouts.{layout_of}
use Rattle.lines.specs.Lines.{is_everywhere, pair_alpha, panel_thickness}
use Rattle.limits.specs.declared.Limit.{Limit}
use Rattle.limits.specs.declared.Limit.TheVariants.{Few, Slender, Uneven, Astray, Heavy, Unbalanced, Thin}

-- some i below nx and j below ny
unfoldable pub some_pair : ℕ → ℕ → (ℕ → ℕ → Bool) → Bool
some_pair nx ny p = some ny (λ j. some nx (λ i. p i j))

-- some panel
abbrev pub some_panel : List ℕ → (ℕ → ℕ → Bool) → Bool
some_panel f p = some_pair (bays f X) (bays f Y) p

-- 1: "nx or ny below 3"
abbrev pub too_few : ℕ → Bool
too_few n = ltb n 3

unfoldable pub few : List ℕ → Bool
few f = too_few (bays f X) || too_few (bays f Y)

-- 2: "in a panel, longer span > 2·shorter"
abbrev pub slender : ℕ → ℕ → Bool
slender x y = ltb (2 * min x y) (max x y)

unfoldable pub slender_panel : List ℕ → ℕ → ℕ → Bool
slender_panel f i j = slender (span f X i) (span f Y j)

-- 4: "for neighbouring spans in a direction, 3(longer − shorter) > longer"
abbrev pub unlike : ℕ → ℕ → Bool
unlike a b = ltb (max a b) (3 * (max a b - min a b))

-- span k along d and the next one
abbrev pub unlike_next : List ℕ → Way → ℕ → Bool
unlike_next f d k = unlike (span f d k) (span f d (k + 1))

unfoldable pub uneven : List ℕ → Way → Bool
uneven f d = some (bays f d - 1) (unlike_next f d)

-- 8: "ten times an offset exceeds a span adjoining that column in its direction"
abbrev pub exceeds : ℕ → ℕ → Bool
exceeds offset span = ltb span (10 * offset)

-- of n values in a row, the smaller of those that end and that start at k; at either end both are the one that is there
abbrev pub lesser_at : ℕ → (ℕ → ℕ) → ℕ → ℕ
lesser_at n v k = min (v (k - 1)) (v (min k (n - 1)))

-- the shorter of the spans along d that adjoin the columns k-th along d
unfoldable pub adjoining : List ℕ → Way → ℕ → ℕ
adjoining f d k = lesser_at (bays f d) (span f d) k

-- the column on y line i and x line j is i-th along x and j-th along y
abbrev pub astray_along : List ℕ → Way → ℕ → ℕ → Bool
astray_along f d i j = exceeds (offset f d i j) (adjoining f d (pick d i j))

unfoldable pub astray_column : List ℕ → ℕ → ℕ → Bool
astray_column f i j = astray_along f X i j || astray_along f Y i j

unfoldable pub astray : List ℕ → Bool
astray f = some_pair (bays f X + 1) (bays f Y + 1) (astray_column f)

-- 16: "L > 2D"
abbrev pub overloaded : ℕ → ℕ → Bool
overloaded D L = ltb (2 * D) L

unfoldable pub heavy : List ℕ → Bool
heavy f = overloaded (dead f) (live f)

-- 32: "beams everywhere, and in a panel p > 5q or q > 5p, where p = (sum of α of its two x lines)·Y², q = (sum of α of its two y lines)·X²"
abbrev pub unequal : ℕ → ℕ → Bool
unequal p q = ltb (5 * q) p || ltb (5 * p) q

unfoldable pub unequal_panel : List ℕ → ℕ → ℕ → Bool
unequal_panel f i j =
    unequal (pair_alpha f X j * (span f Y j * span f Y j)) (pair_alpha f Y i * (span f X i * span f X i))

abbrev pub unbalanced_panel : List ℕ → ℕ → ℕ → Bool
unbalanced_panel f i j = is_everywhere (layout_of f) && unequal_panel f i j

unfoldable pub unbalanced : List ℕ → Bool
unbalanced f = is_everywhere (layout_of f) && some_panel f (unequal_panel f)

-- 64: "t below some panel's least thickness"
abbrev pub thinner : ℕ → ℕ → Bool
thinner t least = ltb t least

unfoldable pub thin_panel : List ℕ → ℕ → ℕ → Bool
thin_panel f i j = thinner (thickness f) (panel_thickness f i j)

-- the sum of what is broken
abbrev pub bit : Bool → ℕ → ℕ
bit broken n = cond broken n 0

unfoldable pub sum_of : Bool → Bool → Bool → Bool → Bool → Bool → Bool → ℕ
sum_of a b c d e g h = bit a 1 + bit b 2 + bit c 4 + bit d 8 + bit e 16 + bit g 32 + bit h 64

-- of the numbers of the limits that t picks
abbrev pub sum_picked : (Limit → Bool) → ℕ
sum_picked t = sum_of (t Few) (t Slender) (t Uneven) (t Astray) (t Heavy) (t Unbalanced) (t Thin)

abbrev pub is_broken : List ℕ → Limit → Bool
is_broken f Few = few f
is_broken f Slender = some_panel f (slender_panel f)
is_broken f Uneven = uneven f X || uneven f Y
is_broken f Astray = astray f
is_broken f Heavy = heavy f
is_broken f Unbalanced = unbalanced f
is_broken f Thin = some_panel f (thin_panel f)

unfoldable pub verdict : List ℕ → ℕ
verdict f = sum_picked (is_broken f)

-- moments stand only while no limit is broken and the slab is thick enough
abbrev pub is_clear : List ℕ → Bool
is_clear f = eqb (verdict f) 0
