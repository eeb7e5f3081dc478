-- "What a change may write": the records named for a change of this kind and index, line by line.
-- Assumes nothing.
use Rattle.std.specs.Prelude.{ℕ, ◌+◌, ◌-◌, Bool, cond, ◌&&◌, ◌||◌, List, eqb, ltb, leb}
use Rattle.plan.specs.declared.ways.Way.{Way}
use Rattle.plan.specs.Ways.{across, span_kind, line_kind}
use Rattle.plan.specs.Plan.{bays}
use Rattle.tables.specs.declared.named.Spans.{Spans}
use Rattle.tables.specs.Places.{Place, place_of}

-- of a line of n spans: all, one, none
abbrev pub all_spans : ℕ → Spans
all_spans n = record { from = 0; to = n }

abbrev pub only_span : ℕ → Spans
only_span s = record { from = s; to = s + 1 }

abbrev pub no_span : Spans
no_span = record { from = 0; to = 0 }

abbrev pub whole_if : Bool → ℕ → Spans
whole_if test n = cond test (all_spans n) no_span

-- "for j = 0 the first span of every y line, for j = ny the last"
abbrev pub end_span : ℕ → ℕ → Spans
end_span n j = cond (eqb j 0) (only_span 0) (cond (eqb j n) (record { from = n - 1; to = n }) no_span)

-- of line l along d, which has n spans
unfoldable pub named_spans : ℕ → ℕ → Way → ℕ → ℕ → Spans
named_spans kind index d l n =
    -- "Kind 3: all"
    cond (eqb kind 3) (all_spans n)
    -- "x span i: span i of every x line, all of y lines i and i+1; y likewise"
    (cond (eqb kind (span_kind d)) (only_span index)
    (cond (eqb kind (span_kind (across d))) (whole_if (eqb l index || eqb l (index + 1)) n)
    -- "Beam on x line j: that line; for j = 0 the first span of every y line, for j = ny the last; y likewise"
    (cond (eqb kind (line_kind d)) (whole_if (eqb l index) n)
    (cond (eqb kind (line_kind (across d))) (end_span n index)
    -- "Offset: none"
    no_span))))

-- span s is one of these
abbrev pub among : Spans → ℕ → Bool
among r s = leb r.from s && ltb s r.to

abbrev pub named : List ℕ → ℕ → ℕ → Place → Bool
named f kind index p = among (named_spans kind index p.way p.line (bays f p.way)) p.span

-- record k is named
unfoldable pub named_at : List ℕ → ℕ → ℕ → ℕ → Bool
named_at f kind index k = named f kind index (place_of f k)
