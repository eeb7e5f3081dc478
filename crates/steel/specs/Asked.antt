-- What leaves ask of their callers. A reader who only wants to know what the program does need not read this file.
-- Assumes nothing.
use Rattle.std.specs.Prelude.{ℕ, ◌+◌, ◌*◌, ◌≤◌, ◌<◌, ◌^◌, true, List, ◌≡◌, length, get_or}
use Rattle.tables.specs.Width.{record_width}
use Rattle.tables.specs.Places.{record_count}
use Rattle.frames.specs.Table.{record_at}
use Rattle.frames.specs.declared.span.Span.{Span}
use Rattle.steel.specs.declared.search.Limits.{Limits}
use Rattle.steel.specs.declared.strip.Materials.{Materials}
use Rattle.steel.specs.Strips.{strips, span_bytes, strip_moment, span_barred}
use Rattle.steel.specs.Schedule.{schedule_length, all_barred}

-- for the search: every area up to the largest lies left of the parabola's top, where the tangent still rises; and each product fits 64 bits
pub record Searchable (l : Limits) : Type 0 where
  pub rising : 20 * l.most * l.fy < l.block
  pub grade : (0 < l.fy) × (l.fy ≤ 520)
  pub room : l.block ≤ 5814000000
  pub heaviest : l.load ≤ 2448000000000000000
  pub short : l.most < 2 ^ 32

-- one of the six strips of a span, none wider than a frame, with its moment
pub record InSpan (s : Span) (q moment : ℕ) : Type 0 where
  pub strip : s.strip ≤ 12000
  pub width : s.width ≤ 12000
  pub six : q < strips
  pub moment_is : moment ≡ strip_moment s q

-- a span none of whose strips is wider than a frame
pub record Framed (s : Span) : Type 0 where
  pub strip : s.strip ≤ 12000
  pub width : s.width ≤ 12000

-- span k, whose strips all have bars, with room for their records
pub record Laying (out : List ℕ) (s : Span) (m : Materials) (k : ℕ) : Type 0 where
  pub framed : Framed s
  pub few : k ≤ 312
  pub room : k * span_bytes + span_bytes ≤ length out
  pub known : span_barred s m k ≡ true

-- room for a floor's schedule
pub record Roomy (f out : List ℕ) : Type 0 where
  pub room : schedule_length f ≤ length out

-- and bars for all its strips: nothing is written before that is known
pub record LayingAll (f out : List ℕ) : Type 0 where
  pub room : schedule_length f ≤ length out
  pub known : all_barred f ≡ true

-- a table that has a floor's moments
abbrev pub HasMoments : List ℕ → List ℕ → Type 0
HasMoments f t = (k n : ℕ) → k < record_count f → n < record_width → get_or t (k * record_width + n) 0 ≡ get_or (record_at f k) n 0
