-- Supports in their lines (crate tables, InLines): how many there are, which is which, and where a line's start.
-- Assumes nothing.
use Prim.Native.Nat.{ℕ, ◌+◌, ◌*◌, ◌≤◌, ◌<◌}
use mathlib.Core.Path.{◌≡◌}
use Rattle.numbers.proofs.Bounded.{◌⊕◌, ◌⊗◌, #}
use Rattle.plan.specs.declared.ways.Way.{Way}
use Rattle.plan.specs.declared.ways.Way.TheVariants.{X, Y}
use Rattle.plan.specs.declared.read.Bays.{Bays}
use Rattle.tables.specs.Places.{Place, InsideOf, start_in, count_in, records_of, line_first_in}
use Rattle.tables.specs.Asked.{Bayed}
use Rattle.tables.proofs.InLines.{line_ends, below_count, its_place, covered}
use Rattle.supports.specs.Governing.{spans_of, last_of, supports_of, support_count, support_first, support_number, support_place}

-- ---- how many

-- thirteen lines of thirteen supports
pub supports_most : {m n : ℕ} → m ≤ 12 → n ≤ 12 → (m + 1) * (n + 1) ≤ 169
supports_most hm hn = (hm ⊕ # 1) ⊗ (hn ⊕ # 1)

pub support_most : {b : Bays} → Bayed b → support_count b ≤ 338
unfolding support_count
support_most h = supports_most h.y h.x ⊕ supports_most h.x h.y

module _ {b : Bays} (h : Bayed b) where
  pub last_most : (d : Way) → last_of b d ≤ 12
  last_most X = h.y
  last_most Y = h.x

-- ---- which is which

module _ (b : Bays) where
  -- a line of supports ends within their count, and a line of spans within the records
  pub line_below : (d : Way) (l : ℕ) → l ≤ last_of b d → support_first b d l + supports_of b d ≤ support_count b
  unfolding support_count
  line_below d l h = line_ends (supports_of b) (last_of b) d l h

  pub spans_below : (d : Way) (l : ℕ) → l ≤ last_of b d → line_first_in b d l + spans_of b d ≤ records_of b
  spans_below d l h = go d (line_ends (spans_of b) (last_of b) d l h)
    where
      go : (w : Way) → start_in (spans_of b) (last_of b) w + l * spans_of b w + spans_of b w ≤ count_in (spans_of b) (last_of b)
          → line_first_in b w l + spans_of b w ≤ records_of b
      go X q = q
      go Y q = q

  -- a support of a line has its number below the count, and stands at the place of that number
  pub support_below : {p : Place} → InsideOf (supports_of b) (last_of b) p → support_number b p < support_count b
  unfolding support_count
  support_below h = below_count (supports_of b) (last_of b) h

  pub number_support : {p : Place} → InsideOf (supports_of b) (last_of b) p → support_place b (support_number b p) ≡ p
  unfolding support_place
  number_support h = its_place (supports_of b) (last_of b) h

  module _ {k : ℕ} (h : k < support_count b) where
    -- every support is one of a line, and the one that has its number
    pub support_inside : InsideOf (supports_of b) (last_of b) (support_place b k)
    unfolding support_place support_count
    support_inside = (covered (supports_of b) (last_of b) h).0

    pub support_number_lem : support_number b (support_place b k) ≡ k
    unfolding support_place support_count
    support_number_lem = (covered (supports_of b) (last_of b) h).1
