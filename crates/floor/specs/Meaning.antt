-- "Refusal numbers, in the order tried": what each check asks of a floor file, as a statement.
-- Above each statement stands 01's sentence for its refusal: the statement is its negation, which holds of a floor that passes.
-- Those of 6 and 7 are in crate layouts. That the tests of `Refusal` say these statements, and that `refusal` answers the number given, is proved in
-- proofs/Meaning.
-- Assumes nothing.
use Rattle.std.specs.Prelude.{ℕ, ◌+◌, ◌*◌, ◌%◌, ◌≤◌, ◌<◌, List, ◌≡◌, length}
use Rattle.records.specs.Kinds.{size_kind, total}
use Rattle.records.specs.Meaning.{Sizes, InRange, Zero}
use Rattle.plan.specs.declared.ways.Way.TheVariants.{X, Y}
use Rattle.plan.specs.Fields.{part_a, part_b, part_c, kind_at, index_at, part_at}
use Rattle.plan.specs.Plan.{bays, many, start}

-- 1 "length is no multiple of 16, or below 14 records"
abbrev pub Whole : List ℕ → Type 0
Whole f = (length f % 16 ≡ 0) × (14 * 16 ≤ length f)

-- record q is of kind k and index i
abbrev pub HeadIs : List ℕ → ℕ → ℕ → ℕ → Type 0
HeadIs f q k i = (kind_at f q ≡ k) × (index_at f q ≡ i)

-- 2 "record 0 is not kind 1 index 0, or nx, ny or t is out of range"
abbrev pub First : List ℕ → Type 0
First f = HeadIs f 0 size_kind 0 × Sizes (part_at f 0 part_a) (part_at f 0 part_b) (part_at f 0 part_c)

-- 3 "record count is not what nx and ny ask"
abbrev pub Counted : List ℕ → Type 0
Counted f = length f ≡ total (bays f X) (bays f Y) * 16

-- every record that nx and ny ask for, of kind k and index i, has P at its place q
abbrev pub EachRecord : List ℕ → (ℕ → ℕ → ℕ → Type 0) → Type 0
EachRecord f P = (k i : ℕ) → i < many f k → P k i (start f k + i)

-- 4 "some kind, index or zero field is not as listed"
abbrev pub AsListed : List ℕ → Type 0
AsListed f = EachRecord f (λ k i q. HeadIs f q k i × Zero k (part_at f q part_b) (part_at f q part_c))

-- 5 "some value is out of range, or one beam size alone is 0"
abbrev pub InRanges : List ℕ → Type 0
InRanges f = EachRecord f (λ k i q. InRange k (part_at f q part_a) (part_at f q part_b) (part_at f q part_c))
