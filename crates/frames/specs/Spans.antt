-- A span of a floor whose moments stand, as the crates above take it. 02, Five: "as 01 works them out for this floor".
-- Assumes nothing.
use Rattle.std.specs.Prelude.{ℕ, List}
use Rattle.plan.specs.declared.ways.Way.{Way}
use Rattle.spans.specs.declared.view.View.{View}
use Rattle.spans.specs.Works.{width_of, strip_of}
use Rattle.spans.specs.Record.{record_of}
use Rattle.tables.specs.Places.{place_of}
use Rattle.frames.specs.declared.span.Span.{Span}
use Rattle.frames.specs.Table.{view_at}

-- its record, its direction, the beam on its line, wc and W
abbrev pub span_of : Way → View → Span
span_of d v =
    record {
      numbers = record_of v;
      way = d;
      outer = v.line.outer;
      beam = v.line.width;
      strip = strip_of v;
      width = width_of v.line;
    }

-- of record k
unfoldable pub span_at : List ℕ → ℕ → Span
span_at f k = span_of (place_of f k).way (view_at f k)
