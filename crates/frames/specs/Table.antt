-- The records of a floor whose moments stand: "the records named here get their right value and every other keeps what it held".
-- Assumes nothing.
use Rattle.std.specs.Prelude.{ℕ, List}
use Rattle.numbers.specs.Records.{written}
use Rattle.spans.specs.declared.view.View.{View}
use Rattle.spans.specs.Views.{view_of}
use Rattle.spans.specs.Record.{record_of}
use Rattle.tables.specs.Width.{record_width}
use Rattle.tables.specs.Places.{Place, place_of, record_count}
use Rattle.tables.specs.Named.{named_at}

-- what is read of a place, and of record k
abbrev pub view_in : List ℕ → Place → View
view_in f p = view_of f p.way p.line p.span

unfoldable pub view_at : List ℕ → ℕ → View
view_at f k = view_in f (place_of f k)

-- record k's right value
abbrev pub record_at : List ℕ → ℕ → List ℕ
record_at f k = record_of (view_at f k)

-- the table with the records that a change of this kind and index names worked out afresh
unfoldable pub named_written : List ℕ → ℕ → ℕ → List ℕ → List ℕ
named_written f kind index t = written record_width (named_at f kind index) (record_at f) (record_count f) t
