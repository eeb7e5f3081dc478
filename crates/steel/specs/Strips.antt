-- 02, Five as amended by Six: a strip of a section of a span, and its record of the schedule. A span has six strips, q from 0 to 5: of section q / 2, the column strip
-- where q is even and the middle strip where it is odd.
-- Assumes nothing.
use Rattle.std.specs.Prelude.{ℕ, ◌+◌, ◌-◌, ◌/◌, ◌%◌, Bool, cond, not, List, eqb, get_or, Option, Some, None}
use Rattle.numbers.specs.Tests.{all}
use Rattle.plan.specs.declared.ways.Way.{Way}
use Rattle.plan.specs.Ways.{pick}
use Rattle.plan.specs.Plan.{thickness, strength, grade}
use Rattle.bars.specs.declared.choice.Bars.{Bars}
use Rattle.bars.specs.declared.entry.Entry.{Entry}
use Rattle.bars.specs.Widths.{column_width, middle_width}
use Rattle.bars.specs.Choice.{bars_for}
use Rattle.bars.specs.Entries.{entry_numbers, four_bytes, eight_of}
use Rattle.frames.specs.declared.span.Span.{Span}
use Rattle.moments.specs.Meaning.{section_at}
use Rattle.steel.specs.declared.query.Query.{Query}
use Rattle.steel.specs.declared.strip.Materials.{Materials}
use Rattle.steel.specs.declared.strip.Reinforcement.{Reinforcement}
use Rattle.steel.specs.Query.{query_of}
use Rattle.steel.specs.Steel.{steel_of}

abbrev pub strips : ℕ
strips = 6

-- so many numbers and bytes its records have
abbrev pub span_numbers : ℕ
span_numbers = 48

abbrev pub span_bytes : ℕ
span_bytes = 192

-- "section (0 low end, 1 between, 2 high end), strip (0 column, 1 middle)"
abbrev pub section_of : ℕ → ℕ
section_of q = q / 2

abbrev pub strip_of : ℕ → ℕ
strip_of q = q % 2

abbrev pub by_strip : {A : Type 0} → ℕ → A → A → A
by_strip q column middle = cond (eqb (strip_of q) 0) column middle

-- "Column strip width is wc, less the beam's width on an inside line, less half of it, rounded up, on an outer line; middle strip width is W less wc."
unfoldable pub strip_width : Span → ℕ → ℕ
strip_width s q = by_strip q (column_width s.outer s.strip s.beam) (middle_width s.width s.strip)

-- "The moment is the slab part for the column strip and the middle part for the other": which number of the span's record, where a section has total,
-- column, middle, beam and slab
unfoldable pub moment_number : ℕ → ℕ
moment_number q = section_at (section_of q) + by_strip q 4 2

unfoldable pub strip_moment : Span → ℕ → ℕ
strip_moment s q = get_or s.numbers (moment_number q) 0

-- the floor's t, fc, fy
unfoldable pub materials_of : List ℕ → Materials
materials_of f = record { t = thickness f; fc = strength f; fy = grade f }

-- "The area is the steel answer for that moment and width"; 02, Six, of its depth: "Callers that meant the first layer pass t − 26 themselves. In the schedule these
-- are the x frames"; "y frames keep 0"
unfoldable pub schedule_depth : Way → ℕ → ℕ
schedule_depth d t = pick d (t - 26) 0

unfoldable pub strip_query : Span → Materials → ℕ → Query
strip_query s m q = query_of (strip_moment s q) (strip_width s q) m.t (schedule_depth s.way m.t) m.fc m.fy

-- ---- the bars

abbrev pub nothing : Reinforcement
nothing = record { area = 0; diameter = 0; spacing = 0 }

abbrev pub laid : ℕ → Bars → Reinforcement
laid area bars = record { area = area; diameter = bars.diameter; spacing = bars.spacing }

-- the least area of a query and the bars for it; the diameter is 0 where there is "a strip width of 0 or less, no steel area that fits, or no bar that
-- allows a spacing"
unfoldable pub reinforcement_of : Query → Reinforcement
reinforcement_of query =
    cond (eqb query.b 0) nothing
    (cond (eqb (steel_of query).refusal 0) (laid (steel_of query).value (bars_for query.b (steel_of query).value query.t)) nothing)

-- ---- the record

unfoldable pub entry_of : Span → Materials → ℕ → ℕ → Entry
entry_of s m k q =
    record {
      «record» = k;
      section = section_of q;
      strip = strip_of q;
      width = strip_width s q;
      moment = strip_moment s q;
      area = (reinforcement_of (strip_query s m q)).area;
      diameter = (reinforcement_of (strip_query s m q)).diameter;
      spacing = (reinforcement_of (strip_query s m q)).spacing;
    }

abbrev pub has_bars : Entry → Bool
has_bars e = not (eqb e.diameter 0)

abbrev pub if_barred : Entry → Option Entry
if_barred e = cond (eqb e.diameter 0) None (Some e)

-- every strip of the span has its bars
abbrev pub span_barred : Span → Materials → ℕ → Bool
span_barred s m k = all strips (λ q. has_bars (entry_of s m k q))

-- the bytes of number i of a schedule, where that is a number of span s, record k of the table
unfoldable pub strip_bytes : Span → Materials → ℕ → ℕ → List ℕ
strip_bytes s m k i = four_bytes (get_or (eight_of (entry_of s m k (i % span_numbers / entry_numbers))) (i % entry_numbers) 0)
