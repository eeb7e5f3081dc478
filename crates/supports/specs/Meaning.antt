-- Request One in its own words, for a reader: what a support has, which supports a change writes, and when slice and table agree.
-- Assumes nothing.
use Rattle.std.specs.Prelude.{ℕ, ◌+◌, ◌*◌, ◌≤◌, ◌<◌, List, ◌⊎◌, ◌≡◌, length, get_or}
use Rattle.numbers.specs.Tests.{All, Some}
use Rattle.plan.specs.declared.read.Bays.{Bays}
use Rattle.plan.specs.Plan.{bays}
use Rattle.tables.specs.Width.{record_width}
use Rattle.tables.specs.Places.{Place, line_first_in}
use Rattle.tables.specs.Meaning.{Names}
use Rattle.supports.specs.Governing.{support_width, spans_of, support_count, support_at}

-- ---- what a support has

-- the record of span s of the line of a support
abbrev pub span_record : Bays → Place → ℕ → ℕ
span_record b p s = line_first_in b p.way p.line + s

-- number n of either end of record r: "total, column, middle, beam and slab parts", so number 0 is the total
abbrev pub low_part : List ℕ → ℕ → ℕ → ℕ
low_part t r n = get_or t (r * record_width + (1 + n)) 0

abbrev pub high_part : List ℕ → ℕ → ℕ → ℕ
high_part t r n = get_or t (r * record_width + (11 + n)) 0

-- five numbers, each the one of this face
abbrev pub Taken : List ℕ → (ℕ → ℕ) → Type 0
Taken five face = All 5 (λ n. get_or five n 0 ≡ face n)

-- "taken from the face with the larger total, the lower span's on a tie; an outer support has one face"
pub record GoverningAt (b : Bays) (t : List ℕ) (p : Place) (five : List ℕ) : Type 0 where
  -- "Five numbers per support"
  pub count : length five ≡ 5
  -- the support with which the line starts has the low end of the first span
  pub start : p.span ≡ 0 → Taken five (low_part t (span_record b p 0))
  -- the one with which it ends has the high end of the last span
  pub end : (s : ℕ) → s + 1 ≡ p.span → p.span ≡ spans_of b p.way → Taken five (high_part t (span_record b p s))
  -- an inner one has the high end of the span below it if that total is the larger or on a tie ..
  pub lower : (s : ℕ) → s + 1 ≡ p.span → p.span < spans_of b p.way
      → low_part t (span_record b p p.span) 0 ≤ high_part t (span_record b p s) 0 → Taken five (high_part t (span_record b p s))
  -- .. and else the low end of the span above it
  pub higher : (s : ℕ) → s + 1 ≡ p.span → p.span < spans_of b p.way
      → high_part t (span_record b p s) 0 < low_part t (span_record b p p.span) 0 → Taken five (low_part t (span_record b p p.span))

-- ---- which supports a change writes

-- span s of a line has support n at one of its ends
abbrev pub Adjoins : ℕ → ℕ → Type 0
Adjoins s n = (s ≡ n) ⊎ (s + 1 ≡ n)

abbrev pub span_of : Place → ℕ → Place
span_of p s = record { way = p.way; line = p.line; span = s }

-- "only supports next to a written record are written": some span of the line adjoins support p, and the change names it
abbrev pub Beside : List ℕ → ℕ → ℕ → Place → Type 0
Beside f kind index p = Some (bays f p.way) (λ s. Adjoins s p.span × Names f kind index (span_of p s))

-- ---- "agreed with the table"

-- every number of every support in the slice g is the one that it has by the table t
abbrev pub Agrees : Bays → List ℕ → List ℕ → Type 0
Agrees b t g = (k n : ℕ) → k < support_count b → n < support_width → get_or g (k * support_width + n) 0 ≡ get_or (support_at b t k) n 0
