-- "The floor file", the table row by row as statements: what the tests of `Kinds` and `Ranges` mean.
-- That each test says its statement, both ways, is proved in proofs/Meaning.
-- Assumes nothing.
use Rattle.std.specs.Prelude.{ℕ, ◌%◌, ◌/◌, ◌≤◌, ◌⊎◌, ◌≡◌}
use Rattle.records.specs.Kinds.{by_kind}

-- lo..hi
abbrev pub In : ℕ → ℕ → ℕ → Type 0
In lo hi x = (lo ≤ x) × (x ≤ hi)

-- 1 sizes: bays nx 1..12, bays ny 1..12, slab t 90..500
abbrev pub Sizes : ℕ → ℕ → ℕ → Type 0
Sizes nx ny t = In 1 12 nx × In 1 12 ny × In 90 500 t

-- 2 materials: fc 20..60 MPa, fy 280, 420 or 520
abbrev pub Materials : ℕ → ℕ → Type 0
Materials fc fy = In 20 60 fc × ((fy ≡ 280) ⊎ ((fy ≡ 420) ⊎ (fy ≡ 520)))

-- 3 loads: dead D 1,000..30,000, live L 0..50,000
abbrev pub Loads : ℕ → ℕ → Type 0
Loads dead live = In 1000 30000 dead × (live ≤ 50000)

-- 4 columns: cx, cy 200..1,500, multiples of 10; sides
abbrev pub Column : ℕ → Type 0
Column x = In 200 1500 x × (x % 10 ≡ 0)

-- "a digit 3, or a sum above 170, is out of range"; the digits are west, east, south, north
abbrev pub Sides : ℕ → Type 0
Sides s = (s ≤ 170) × (s % 4 ≤ 2) × (s / 4 % 4 ≤ 2) × (s / 16 % 4 ≤ 2) × (s / 64 % 4 ≤ 2)

abbrev pub Columns : ℕ → ℕ → ℕ → Type 0
Columns cx cy sides = Column cx × Column cy × Sides sides

-- 5 x span, 6 y span: 1,000..12,000, a multiple of 20
abbrev pub Span : ℕ → Type 0
Span x = In 1000 12000 x × (x % 20 ≡ 0)

-- 7 beam on x line, 8 beam on y line: width 150..1,000, depth 91..1,500, or both 0
abbrev pub Beam : ℕ → ℕ → Type 0
Beam width depth = ((width ≡ 0) × (depth ≡ 0)) ⊎ (In 150 1000 width × In 91 1500 depth)

-- 9 column offset: size along x, along y, 0..12,000
abbrev pub Offset : ℕ → ℕ → Type 0
Offset x y = (x ≤ 12000) × (y ≤ 12000)

-- the values a, b, c of a record of kind k are in range; no number but 1 to 9 is a kind
unfoldable pub InRange : ℕ → ℕ → ℕ → ℕ → Type 0
InRange k a b c =
    by_kind k (Sizes a b c) (Materials a b) (Loads a b) (Columns a b c) (Span a) (Span a) (Beam a b) (Beam a b) (Offset a b) ⊥

-- "a field not listed is zero": kinds 1 and 4 list a, b and c; kinds 5 and 6 a alone; the others a and b
unfoldable pub Zero : ℕ → ℕ → ℕ → Type 0
Zero k b c =
    by_kind k Unit (c ≡ 0) (c ≡ 0) Unit ((b ≡ 0) × (c ≡ 0)) ((b ≡ 0) × (c ≡ 0)) (c ≡ 0) (c ≡ 0) (c ≡ 0) ⊥

-- refusal 9: a change is of kind 3 or 5..9
abbrev pub Changeable : ℕ → Type 0
Changeable k = (k ≡ 3) ⊎ In 5 9 k
