-- What a change may write, in the words of 01: "Otherwise the records named here get their right value and every other keeps what it held".
-- Assumes nothing.
use Rattle.std.specs.Prelude.{ℕ, ◌+◌, List, ◌⊎◌, ◌≡◌}
use Rattle.plan.specs.Ways.{across, span_kind, line_kind}
use Rattle.plan.specs.Plan.{bays}
use Rattle.tables.specs.Places.{Place}

-- a change of this kind and index names the span p of floor f
pub data Names (f : List ℕ) (kind index : ℕ) (p : Place) : Type 0 where
  -- "Kind 3: all."
  loads : kind ≡ 3 → Names f kind index p
  -- "x span i: span i of every x line .. y likewise."
  own_span : kind ≡ span_kind p.way → p.span ≡ index → Names f kind index p
  -- ".. all of y lines i and i+1; y likewise."
  beside : kind ≡ span_kind (across p.way) → (p.line ≡ index) ⊎ (p.line ≡ index + 1) → Names f kind index p
  -- "Beam on x line j: that line .. y likewise."
  own_line : kind ≡ line_kind p.way → p.line ≡ index → Names f kind index p
  -- ".. for j = 0 the first span of every y line .. y likewise."
  first_span : kind ≡ line_kind (across p.way) → index ≡ 0 → p.span ≡ 0 → Names f kind index p
  -- ".. for j = ny the last; y likewise." The last line across is line n, where n is the number of spans of this line.
  last_span : kind ≡ line_kind (across p.way) → index ≡ bays f p.way → p.span + 1 ≡ bays f p.way → Names f kind index p
