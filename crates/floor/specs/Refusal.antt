-- "Refusal numbers, in the order tried": 1 to 7 of a floor file, each over the whole file before the next.
-- Assumes nothing.
use Rattle.std.specs.Prelude.{ℕ, ◌+◌, ◌*◌, ◌%◌, Bool, ◌&&◌, List, [], ◌∷◌, eqb, leb, length}
use Rattle.numbers.specs.Tests.{all}
use Rattle.numbers.specs.Chains.{Chain, tried, GivenBy}
use Rattle.numbers.specs.Chains.Check.{◌unless◌says◌}
use Rattle.records.specs.Kinds.{size_kind, total, unlisted_zero}
use Rattle.records.specs.Ranges.{sizes_ok, values_ok}
use Rattle.plan.specs.declared.ways.Way.TheVariants.{X, Y}
use Rattle.layouts.specs.declared.Rule.TheVariants.{Columns}
use Rattle.floor.specs.declared.refusal.Check.{Check}
use Rattle.floor.specs.declared.refusal.Check.TheVariants.{Listed, Ranged}
use Rattle.plan.specs.Fields.{part_a, part_b, part_c, kind_at, index_at, part_at}
use Rattle.plan.specs.Plan.{bays, many, start}
use Rattle.layouts.specs.Layouts.{kept, beams_ok}
use Rattle.floor.specs.Meaning.{Whole, First, Counted, AsListed, InRanges}
use Rattle.layouts.specs.Meaning.{ColumnsFit, LayoutAllowed, BeamsDeep}

-- 1: the length is a multiple of 16, and 14 records or more
unfoldable pub length_ok : List ℕ → Bool
length_ok f = eqb (length f % 16) 0 && leb 224 (length f)

-- record q is of kind k and index i
abbrev pub head_is : List ℕ → ℕ → ℕ → ℕ → Bool
head_is f q k i = eqb (kind_at f q) k && eqb (index_at f q) i

-- 2: record 0 is kind 1 index 0, and nx, ny and t are in range
unfoldable pub first_ok : List ℕ → Bool
first_ok f = head_is f 0 size_kind 0 && sizes_ok (part_at f 0 part_a) (part_at f 0 part_b) (part_at f 0 part_c)

-- 3: the record count is what nx and ny ask
unfoldable pub count_ok : List ℕ → Bool
count_ok f = eqb (length f) (total (bays f X) (bays f Y) * 16)

-- record q, which is to be the one of kind k and index i
--     Listed    4: its kind, index and zero fields are as listed
--     Ranged    5: its values are in range, and no beam has just one of its sizes 0
unfoldable pub record_ok : List ℕ → Check → ℕ → ℕ → ℕ → Bool
record_ok f Listed k i q = head_is f q k i && unlisted_zero k (part_at f q part_b) (part_at f q part_c)
record_ok f Ranged k i q = values_ok k (part_at f q part_a) (part_at f q part_b) (part_at f q part_c)

-- the n records of kind k that start at record `from`; then all kinds
unfoldable pub kind_ok : List ℕ → Check → ℕ → ℕ → ℕ → Bool
kind_ok f check k from n = all n (λ i. record_ok f check k i (from + i))

unfoldable pub every_record : List ℕ → Check → Bool
every_record f check = all 10 (λ k. kind_ok f check k (start f k) (many f k))

-- ---- "in the order tried": the number, the test, what it asks

-- 5 to 7, which a change tries again on the changed floor
unfoldable pub value_checks : List ℕ → Chain
value_checks f =
    5 unless every_record f Ranged says InRanges f
    ∷ 6 unless kept f Columns says ColumnsFit f
    ∷ 7 unless beams_ok f says (LayoutAllowed f × BeamsDeep f)
    ∷ []

-- 1 to 7
unfoldable pub floor_checks : List ℕ → Chain
floor_checks f =
    1 unless length_ok f says Whole f
    ∷ 2 unless first_ok f says First f
    ∷ 3 unless count_ok f says Counted f
    ∷ 4 unless every_record f Listed says AsListed f
    ∷ value_checks f

-- the number answered; "success is 0"
unfoldable pub values_refusal : List ℕ → ℕ
values_refusal f = tried (value_checks f)

unfoldable pub refusal : List ℕ → ℕ
refusal f = tried (floor_checks f)

-- number n is given exactly when the checks before it hold and its own does not; no other number is given
abbrev pub Given : ℕ → List ℕ → Type 0
Given n f = GivenBy (floor_checks f) n
