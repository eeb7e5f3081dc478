-- "only supports next to a written record are written": of each line, the supports at either end of the spans that a change names.
-- Assumes nothing.
use Rattle.std.specs.Prelude.{ℕ, Bool, ◌&&◌, ltb, leb}
use Rattle.plan.specs.declared.read.Bays.{Bays}
use Rattle.tables.specs.Places.{Place}
use Rattle.tables.specs.declared.named.Spans.{Spans}
use Rattle.tables.specs.Named.{named_spans}
use Rattle.supports.specs.Governing.{spans_of, support_place}

-- support s is next to one of these spans
abbrev pub beside_some : Spans → ℕ → Bool
beside_some r s = ltb r.from r.to && (leb r.from s && leb s r.to)

abbrev pub beside_named : Bays → ℕ → ℕ → Place → Bool
beside_named b kind index p = beside_some (named_spans kind index p.way p.line (spans_of b p.way)) p.span

unfoldable pub beside_at : Bays → ℕ → ℕ → ℕ → Bool
beside_at b kind index k = beside_named b kind index (support_place b k)
