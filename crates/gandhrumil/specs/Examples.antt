-- Three floors and a change written out, to show that the promises are not vacuous. proofs/ExamplesHold shows what is said of them, by computing.
-- Assumes nothing.
use Rattle.std.specs.Prelude.{ℕ, zero, suc, ◌+◌, ◌*◌, ◌/◌, ◌%◌, ◌≤◌, ◌<◌, List, [], ◌∷◌, ◌++◌, ◌≡◌, eqb, length, get_or, drop}
use Rattle.plan.specs.Fields.{le32}
use Rattle.floor.specs.Refusal.{Given}
use Rattle.changes.specs.Change.{changed}
use Rattle.limits.specs.Meaning.{Broken}
use Rattle.tables.specs.Width.{record_width}
use Rattle.answers.specs.declared.Answer.{Answer}
use Rattle.answers.specs.Answers.{answer}
use Rattle.clear.specs.Answers.{yes_no, clear_of}
use Rattle.broken.specs.Answers.{Placed}
use Rattle.moments.specs.Lent.{Lent}
use Rattle.moments.specs.Tables.{Lodged}
use Rattle.moments.specs.Opening.{Opened}
use Rattle.moments.specs.Changing.{Changed}
use Rattle.bars.specs.Entries.{entry_numbers}
use Rattle.steel.specs.Schedule.{Scheduled}

-- ---- how a file is put together

-- n in k bytes, the lowest first
abbrev bytes : ℕ → ℕ → List ℕ
bytes zero n = []
bytes (suc k) n = n % 256 ∷ bytes k (n / 256)

-- a record: kind and index in two bytes each, then a, b and c in four
abbrev entry : ℕ → ℕ → ℕ → ℕ → ℕ → List ℕ
entry kind index a b c = bytes 2 kind ++ bytes 2 index ++ bytes 4 a ++ bytes 4 b ++ bytes 4 c

-- a record's a and b
pub record Pair : Type 0 where
  pub a : ℕ
  pub b : ℕ

abbrev by : ℕ → ℕ → Pair
by a b = record { a = a; b = b }

-- records of one kind from index i on: by a and b, and by a alone
abbrev entries : ℕ → ℕ → List Pair → List ℕ
entries kind i [] = []
entries kind i (p ∷ ps) = entry kind i p.a p.b 0 ++ entries kind (suc i) ps

abbrev spans : ℕ → ℕ → List ℕ → List ℕ
spans kind i [] = []
spans kind i (l ∷ ls) = entry kind i l 0 0 ++ spans kind (suc i) ls

-- n copies of p, then ps
abbrev times : ℕ → Pair → List Pair → List Pair
times zero p ps = ps
times (suc n) p ps = p ∷ times n p ps

-- ---- the floors

-- 01: "One bay each way, spans 4,000, t 200, fc 30, fy 420, D 5,000, L 2,000, columns 400, sides 0, no beams, no offsets (14 records)"
abbrev pub one_bay : List ℕ
one_bay =
    entry 1 0 1 1 200 ++ entry 2 0 30 420 0 ++ entry 3 0 5000 2000 0 ++ entry 4 0 400 400 0
    ++ spans 5 0 (4000 ∷ []) ++ spans 6 0 (4000 ∷ []) ++ entries 7 0 (times 2 (by 0 0) []) ++ entries 8 0 (times 2 (by 0 0) [])
    ++ entries 9 0 (times 4 (by 0 0) [])

-- the garage of example/garage.txt: five bays by four, beams everywhere, two columns off their lines; with these x spans
abbrev garage_of : List ℕ → List ℕ
garage_of x =
    entry 1 0 5 4 200 ++ entry 2 0 30 420 0 ++ entry 3 0 7200 5000 0 ++ entry 4 0 600 500 0
    ++ spans 5 0 x ++ spans 6 0 (6000 ∷ 7000 ∷ 7000 ∷ 6400 ∷ [])
    ++ entries 7 0 (by 400 700 ∷ times 3 (by 350 650) (by 400 700 ∷ []))
    ++ entries 8 0 (by 400 700 ∷ by 350 600 ∷ by 380 650 ∷ by 380 650 ∷ by 350 600 ∷ by 400 700 ∷ [])
    ++ entries 9 0 (by 0 0 ∷ by 0 0 ∷ by 250 0 ∷ times 6 (by 0 0) (by 150 200 ∷ times 20 (by 0 0) []))

abbrev pub garage : List ℕ
garage = garage_of (6600 ∷ 7200 ∷ 7500 ∷ 7200 ∷ 6600 ∷ [])

-- with a column line moved: x spans 2 and 3 are unlike, and three panels ask for a thicker slab
abbrev pub moved : List ℕ
moved = garage_of (6600 ∷ 7200 ∷ 9900 ∷ 4800 ∷ 6600 ∷ [])

-- and a change to it: less load
abbrev pub lighter : List ℕ
lighter = entry 3 0 7000 4500 0

-- ---- what is said of them

-- floor f is accepted, v names what is broken, opening it answers so wherever table and slice have room, and it is clear where v is 0
pub record Example (f : List ℕ) (v : ℕ) : Type 0 where
  pub accepted : Given 0 f
  pub judged : Broken f v
  pub opens : {l l' : Lent} {a : Answer} → Opened f l a l' → Lodged f l → a ≡ answer 0 v
  pub clear : clear_of f ≡ answer 0 (yes_no (eqb v 0))

-- the first span of the southern frame: Mo, then low end, between and high end, each as total, column, middle, beam and slab
abbrev pub first_span : List ℕ
first_span =
    243360
    ∷ 3893760 ∷ 3435853 ∷ 457907 ∷ 2920475 ∷ 515378
    ∷ 13871520 ∷ 10782332 ∷ 3089188 ∷ 9164982 ∷ 1617350
    ∷ 17035200 ∷ 13241460 ∷ 3793740 ∷ 11255241 ∷ 1986219
    ∷ []

-- and its first strips in the schedule, at the low end: record, section, strip, width, moment, area, diameter, spacing. The column strip's width is wc, a quarter of
-- 6,000 and half of the column's 500, less half of the beam's 400
abbrev pub first_strip : List ℕ
first_strip = 0 ∷ 0 ∷ 0 ∷ 1550 ∷ 515378 ∷ 558 ∷ 10 ∷ 210 ∷ []

abbrev pub second_strip : List ℕ
second_strip = 0 ∷ 0 ∷ 1 ∷ 1500 ∷ 457907 ∷ 540 ∷ 10 ∷ 210 ∷ []

-- and the middle strip at the high end, where the moment asks for more than the minimum
abbrev pub sixth_strip : List ℕ
sixth_strip = 0 ∷ 2 ∷ 1 ∷ 1500 ∷ 3793740 ∷ 588 ∷ 10 ∷ 200 ∷ []

-- and that of the first span of the western frame, record 25, along y: at the depth t − 38 of the second layer; in the first, 688 mm² would do, at 200 (02, Six)
abbrev pub across_strip : List ℕ
across_strip = 25 ∷ 2 ∷ 1 ∷ 1800 ∷ 4439636 ∷ 741 ∷ 10 ∷ 190 ∷ []

pub record Examples : Type 0 where
  pub one_bay_lem : Example one_bay 1
  pub five_by_four : Example garage 0
  -- the first sixteen numbers of the table that opening leaves
  pub first : {l l' : Lent} {a : Answer} → Opened garage l a l' → Lodged garage l → (n : ℕ) → n < record_width → get_or l'.table n 0 ≡ get_or first_span n 0
  -- a change that is taken, clear before and after
  pub taken : {l l' : Lent} {a : Answer} {f' : List ℕ} → Changed garage l lighter a f' l' → Lodged garage l → a ≡ answer 0 0
  pub after : Example (changed garage lighter) 0
  -- the floor of one bay has too few along x and along y; in a shorter slice it is refused 25
  pub one_bay_places : {t t' : List ℕ} {a : Answer} → Placed one_bay t a t' → 8 ≤ length t
      → (a ≡ answer 0 2) × (t' ≡ 1 ∷ 0 ∷ 0 ∷ 0 ∷ 1 ∷ 1 ∷ 0 ∷ 0 ∷ drop 8 t)
  pub one_bay_short : {t t' : List ℕ} {a : Answer} → Placed one_bay t a t' → length t < 8 → (a ≡ answer 25 0) × (t' ≡ t)
  -- the garage is broken nowhere, and the moved one at two spans and three panels
  pub garage_places : {t t' : List ℕ} {a : Answer} → Placed garage t a t' → (a ≡ answer 0 0) × (t' ≡ t)
  pub moved_places : {t t' : List ℕ} {a : Answer} → Placed moved t a t' → 16 ≤ length t
      → (a ≡ answer 0 4) × (t' ≡ 4 ∷ 0 ∷ 2 ∷ 0 ∷ 64 ∷ 0 ∷ 2 ∷ 1 ∷ 64 ∷ 0 ∷ 2 ∷ 2 ∷ 64 ∷ 0 ∷ 2 ∷ 3 ∷ drop 16 t)
  -- the garage's 49 records have 294 in the schedule, 9,408 bytes; records 0, 1, 5 and 155 are these; a shorter buffer is refused 15
  pub garage_schedule : {t t' : List ℕ} {a : Answer} → Scheduled garage t a t' → 9408 ≤ length t
      → (a ≡ answer 0 294) × ((n : ℕ) → n < entry_numbers → (le32 t' (n * 4) ≡ get_or first_strip n 0) × (le32 t' (32 + n * 4) ≡ get_or second_strip n 0) × (le32 t' (160 + n * 4) ≡ get_or sixth_strip n 0) × (le32 t' (4960 + n * 4) ≡ get_or across_strip n 0))
  pub garage_short : {t t' : List ℕ} {a : Answer} → Scheduled garage t a t' → length t < 9408 → (a ≡ answer 15 0) × (t' ≡ t)
  -- the moved one is not clear: refused 16, however long the buffer is
  pub moved_schedule : {t t' : List ℕ} {a : Answer} → Scheduled moved t a t' → (a ≡ answer 16 0) × (t' ≡ t)
  -- no bytes at all: not clear, refused 1
  pub nothing : clear_of [] ≡ answer 1 0
