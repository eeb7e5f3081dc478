-- "The floor file", the table's third column: the values of one record, by kind, as tests that compute.
-- Assumes nothing.
use Rattle.std.specs.Prelude.{ℕ, ◌%◌, ◌/◌, Bool, false, cond, ◌&&◌, ◌||◌, leb, eqb}
use Rattle.numbers.specs.Tests.{within}
use Rattle.records.specs.Kinds.{by_kind}

-- 1 sizes: bays nx 1..12, bays ny 1..12, slab t 90..500
unfoldable pub sizes_ok : ℕ → ℕ → ℕ → Bool
sizes_ok nx ny t = within 1 12 nx && (within 1 12 ny && within 90 500 t)

-- 2 materials: fc 20..60 MPa, fy 280, 420 or 520
unfoldable pub materials_ok : ℕ → ℕ → Bool
materials_ok fc fy = within 20 60 fc && (eqb fy 280 || (eqb fy 420 || eqb fy 520))

-- 3 loads: dead D 1,000..30,000, live L 0..50,000
unfoldable pub loads_ok : ℕ → ℕ → Bool
loads_ok dead live = within 1000 30000 dead && leb live 50000

-- 4 columns: cx, cy 200..1,500, multiples of 10; sides
unfoldable pub column_ok : ℕ → Bool
column_ok x = within 200 1500 x && eqb (x % 10) 0

-- sides = west + 4·east + 16·south + 64·north, each 0, 1 or 2; a digit 3, or a sum above 170, is out of range
unfoldable pub sides_ok : ℕ → Bool
sides_ok sides =
    leb sides 170 && (leb (sides % 4) 2 && (leb (sides / 4 % 4) 2 && (leb (sides / 16 % 4) 2 && leb (sides / 64 % 4) 2)))

unfoldable pub columns_ok : ℕ → ℕ → ℕ → Bool
columns_ok cx cy sides = column_ok cx && (column_ok cy && sides_ok sides)

-- 5 x span, 6 y span: 1,000..12,000, a multiple of 20
unfoldable pub span_ok : ℕ → Bool
span_ok x = within 1000 12000 x && eqb (x % 20) 0

-- 7 beam on x line, 8 beam on y line: width 150..1,000, depth 91..1,500, or both 0
unfoldable pub beam_ok : ℕ → ℕ → Bool
beam_ok width depth = cond (eqb width 0) (eqb depth 0) (within 150 1000 width && within 91 1500 depth)

-- 9 column offset: size along x, along y, 0..12,000
unfoldable pub offset_ok : ℕ → ℕ → Bool
offset_ok x y = leb x 12000 && leb y 12000

-- the values a, b, c of a record of kind k are in range
unfoldable pub values_ok : ℕ → ℕ → ℕ → ℕ → Bool
values_ok k a b c =
    by_kind k (sizes_ok a b c) (materials_ok a b) (loads_ok a b) (columns_ok a b c)
    (span_ok a) (span_ok a) (beam_ok a b) (beam_ok a b) (offset_ok a b) false
