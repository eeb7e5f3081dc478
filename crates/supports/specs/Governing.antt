-- Request One: "For every frame and support the governing negative: total, column, middle, beam and slab parts taken from the face with the larger
-- total, the lower span's on a tie; an outer support has one face." All of it is worked out from the table as it stands, right or wrong.
-- Assumes nothing.
use Rattle.std.specs.Prelude.{ℕ, ◌+◌, ◌-◌, ◌*◌, Bool, cond, List, [], ◌∷◌, eqb, ltb, get_or}
use Rattle.numbers.specs.Records.{written}
use Rattle.plan.specs.declared.ways.Way.{Way}
use Rattle.plan.specs.declared.read.Bays.{Bays}
use Rattle.plan.specs.Ways.{pick}
use Rattle.tables.specs.Width.{record_width}
use Rattle.tables.specs.Places.{Place, line_first_in, start_in, count_in, rank_in, place_in}

-- ---- one support, on plain numbers

-- "Five numbers per support"
abbrev pub support_width : ℕ
support_width = 5

-- the five numbers of a section, of which the first is its total
abbrev pub five_from : List ℕ → ℕ → List ℕ
five_from t i = get_or t i 0 ∷ get_or t (i + 1) 0 ∷ get_or t (i + 2) 0 ∷ get_or t (i + 3) 0 ∷ get_or t (i + 4) 0 ∷ []

-- a record has Mo, then low end, between and high end: the two ends of record k
abbrev pub low_end_of : List ℕ → ℕ → List ℕ
low_end_of t k = five_from t (k * record_width + 1)

abbrev pub high_end_of : List ℕ → ℕ → List ℕ
high_end_of t k = five_from t (k * record_width + 11)

-- "the face with the larger total, the lower span's on a tie"
abbrev pub governs : List ℕ → List ℕ → List ℕ
governs lower higher = cond (ltb (get_or lower 0 0) (get_or higher 0 0)) higher lower

-- support s of a line of n spans, whose records start with `first`: between the high end of span s − 1 and the low end of span s
unfoldable pub support_on : List ℕ → ℕ → ℕ → ℕ → List ℕ
support_on t first n s =
    cond (eqb s 0) (low_end_of t first)
    (cond (eqb s n) (high_end_of t (first + s - 1)) (governs (high_end_of t (first + s - 1)) (low_end_of t (first + s))))

-- ---- all supports of a floor with these bays: "x frames first by line then support"

-- spans of a line along d, and the last of the lines along it
abbrev pub spans_of : Bays → Way → ℕ
spans_of b d = pick d b.x b.y

abbrev pub last_of : Bays → Way → ℕ
last_of b d = pick d b.y b.x

-- a line has one support more than spans; the span of a `Place` is here the number of a support
abbrev pub supports_of : Bays → Way → ℕ
supports_of b d = spans_of b d + 1

unfoldable pub support_count : Bays → ℕ
support_count b = count_in (supports_of b) (last_of b)

abbrev pub support_first : Bays → Way → ℕ → ℕ
support_first b d l = start_in (supports_of b) (last_of b) d + l * supports_of b d

abbrev pub support_number : Bays → Place → ℕ
support_number b p = rank_in (supports_of b) (last_of b) p

unfoldable pub support_place : Bays → ℕ → Place
support_place b k = place_in (supports_of b) (last_of b) k

-- what support k, or the one at a place, has by the table t
abbrev pub support_in : Bays → List ℕ → Place → List ℕ
support_in b t p = support_on t (line_first_in b p.way p.line) (spans_of b p.way) p.span

abbrev pub support_at : Bays → List ℕ → ℕ → List ℕ
support_at b t k = support_in b t (support_place b k)

-- the slice g with the supports that s picks worked out from the table t
unfoldable pub governed : Bays → (ℕ → Bool) → List ℕ → List ℕ → List ℕ
governed b s t g = written support_width s (support_at b t) (support_count b) g
