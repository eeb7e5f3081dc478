-- What leaves ask of their callers. A reader who only wants to know what the program does need not read this file.
-- The numbers of an accepted floor have these ranges; some, where it is said, only those of a floor whose verdict is clear.
-- Assumes nothing.
use Rattle.std.specs.Prelude.{ℕ, ◌+◌, ◌*◌, ◌≤◌, ◌<◌, ◌^◌, ◌≡◌}

-- a span along the frame, and the column along it: refusals 5 and 6
pub record SpanSizes (l1 column : ℕ) : Type 0 where
  pub long : l1 ≤ 12000
  pub clear : 2 * column ≤ l1

-- the loads of a frame's width on a clear length
pub record Loaded (D L W ln : ℕ) : Type 0 where
  pub dead : D ≤ 30000
  pub live : L ≤ 50000
  pub width : W ≤ 12000
  pub clear : ln ≤ 12000

-- a percentage of a static moment
pub record Percentage (p Mo : ℕ) : Type 0 where
  pub percent : p ≤ 75
  pub moment : Mo ≤ 25056000

-- the stiffness of a line, over the spans across and along it
pub record Stiffened (α l2 l1 : ℕ) : Type 0 where
  pub stiffness : α ≤ 200000000
  pub across : l2 ≤ 12000
  pub along : 1000 ≤ l1

-- a clear verdict adds that in a panel the longer span is at most twice the shorter
pub record Proportioned (l2 l1 : ℕ) : Type 0 where
  pub across : l2 ≤ 12000
  pub along : 1000 ≤ l1
  pub wide : l2 ≤ 2 * l1
  pub long : l1 ≤ 2 * l2

-- the torsion of the outer beam across an end, or 0
pub record Twisted (T l2 t : ℕ) : Type 0 where
  pub torsion : T ≤ 8000000000000000
  pub across_least : 1000 ≤ l2
  pub across_most : l2 ≤ 12000
  pub slab_least : 90 ≤ t
  pub slab_most : t ≤ 500

-- A, and R as a clear verdict has it
pub record ShareRatios (A R : ℕ) : Type 0 where
  pub stiffness : A ≤ 10000
  pub least : 5000 ≤ R
  pub most : R ≤ 20000

-- with B
pub record OuterRatios (A R B : ℕ) : Type 0 where
  pub shared : ShareRatios A R
  pub torsion : B ≤ 25000

-- a base and a crossover whose part is 9000 at A 10000 and R 5000, and 4500 at A 10000 and R 20000
pub record Crossing (base crossover : ℕ) : Type 0 where
  pub through : 10 * base + 3 * crossover ≡ 105000
  pub least : 4500 ≤ base
  pub most : base ≤ 9000

-- k + floor((p − q)/d) that is not negative, in 64 bits
pub record Floored (k p q d : ℕ) : Type 0 where
  pub divisor : 0 < d
  pub covered : q ≤ k * d + p
  pub room : k * d + p < 2 ^ 64

-- n parts of d of a section total
pub record Fraction (total n d : ℕ) : Type 0 where
  pub total_most : total ≤ 1879200000
  pub part_most : n ≤ d
  pub least : 600 ≤ d
  pub most : d ≤ 12000

-- the same, with A
pub record SectionShare (total n d A : ℕ) : Type 0 where
  pub fraction : Fraction total n d
  pub stiffness : A ≤ 10000
