-- Records of a direction, read with the bays at hand: where they start and how many there are is what the table by kind says.
-- Assumes nothing.
use Prim.Native.Nat.{ℕ, ◌+◌, ◌*◌, ◌≤◌, ◌<◌}
use mathlib.Core.Bool.{cond}
use mathlib.Core.List.{List}
use mathlib.Core.Path.{◌≡◌, refl}
use native.Mathlib.Omega.{arith}
use native.Mathlib.Nat.{mul-le-mul_right}
use borrow.Author.Tests.{le-leb, lt-leb}
use lib.Dec.{ltb}
use Rattle.records.specs.Kinds.{count_of, start_of}
use Rattle.plan.specs.declared.ways.Way.{Way}
use Rattle.plan.specs.declared.ways.Way.TheVariants.{X, Y}
use Rattle.plan.specs.declared.read.Bays.{Bays}
use Rattle.plan.specs.Ways.{pick, span_kind, line_kind, part_of}
use Rattle.plan.specs.Fields.{le32, part_at}
use Rattle.plan.specs.Plan.{bays, start, many, value, span, offset}
use Rattle.plan.proofs.Reading.{read}
use Rattle.plan.specs.Asked.{Sized}

module _ {f : List ℕ} {b : Bays} (h : Sized f b) where
  pub along_is : (d : Way) → pick d b.x b.y ≡ bays f d
  along_is X = h.x
  along_is Y = h.y

  pub along_most : (d : Way) → pick d b.x b.y ≤ 12
  along_most X = h.x_most
  along_most Y = h.y_most

  spans_start : (d : Way) → pick d 4 (4 + b.x) ≡ start f (span_kind d)
  unfolding start_of count_of
  spans_start X = refl
  spans_start Y = omega (arith, h.x)

  spans_many : (d : Way) → pick d b.x b.y ≡ many f (span_kind d)
  unfolding count_of
  spans_many X = h.x
  spans_many Y = h.y

  lines_start : (d : Way) → pick d (4 + b.x + b.y) (5 + b.x + 2 * b.y) ≡ start f (line_kind d)
  unfolding start_of count_of
  lines_start X = omega (arith, h.x, h.y)
  lines_start Y = omega (arith, h.x, h.y)

  lines_many : (d : Way) → pick d b.y b.x + 1 ≡ many f (line_kind d)
  unfolding count_of
  lines_many X = omega (arith, h.y)
  lines_many Y = omega (arith, h.x)

  entry_of : (k part i from n r : ℕ) → from ≡ start f k → n ≡ many f k → r ≡ cond (ltb i n) (part_at f (from + i) part) 0 → r ≡ value f k i part
  unfolding value
  entry_of k part i from n r ef en er = rw (er, en, ef)

  pub span_read : (d : Way) (i : ℕ) {from n r : ℕ} → from ≡ pick d 4 (4 + b.x) → n ≡ pick d b.x b.y
      → r ≡ cond (ltb i n) (part_at f (from + i) 1) 0 → r ≡ span f d i
  span_read d i ef en er = entry_of (span_kind d) 1 i _ _ _ (rw ef (spans_start d)) (rw en (spans_many d)) er

  pub beam_read : (d : Way) (l part : ℕ) {from n r : ℕ} → from ≡ pick d (4 + b.x + b.y) (5 + b.x + 2 * b.y) → n ≡ pick d b.y b.x
      → r ≡ cond (ltb l (n + 1)) (part_at f (from + l) part) 0 → r ≡ value f (line_kind d) l part
  beam_read d l part ef en er = entry_of (line_kind d) part l _ _ _ (rw ef (lines_start d)) (rw en (lines_many d)) er

  -- ---- a column's offset

  column_there : (i j : ℕ) → i ≤ b.x → j ≤ b.y → j * (b.x + 1) + i < count_of b.x b.y 9
  unfolding count_of
  column_there i j p q = omega (arith, mul-le-mul_right (b.x + 1) q)

  pub column_read : (d : Way) (i j : ℕ) → i ≤ b.x → j ≤ b.y → (s part r : ℕ) → s ≡ start_of b.x b.y 9 → part ≡ part_of d
      → r ≡ le32 f ((s + (j * (b.x + 1) + i)) * 16 + 4 * part) → r ≡ offset f d i j
  unfolding offset
  column_read d i j p q s part r es ep er =
      rw (← h.x, ← h.y, le-leb i b.x p, le-leb j b.y q, ← ep)
      (read f 9 (j * (b.x + 1) + i) part b.x b.y (count_of b.x b.y 9) h.x h.y refl (column_there i j p q) s r es er)

  pub off_x : (d : Way) (i j : ℕ) → b.x < i → 0 ≡ offset f d i j
  unfolding offset
  off_x d i j p = rw (← h.x, lt-leb i b.x p)

  pub off_y : (d : Way) (i j : ℕ) → i ≤ b.x → b.y < j → 0 ≡ offset f d i j
  unfolding offset
  off_y d i j p q = rw (← h.x, ← h.y, le-leb i b.x p, lt-leb j b.y q)
