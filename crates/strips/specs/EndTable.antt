-- "Moments": the section totals, and the percentages of inner and of end spans.
-- Assumes nothing.
use Rattle.std.specs.Prelude.{ℕ, ◌+◌, ◌*◌, cond, List, [], ◌∷◌, eqb, get_or}
use Rattle.layouts.specs.declared.Layout.{Layout}
use Rattle.layouts.specs.declared.Layout.TheVariants.{Everywhere, OuterOnly, Bare}
use Rattle.strips.specs.declared.endspan.SpanPlace.{SpanPlace}
use Rattle.strips.specs.declared.endspan.SpanPlace.TheVariants.{OuterEnd, Between, InnerEnd}

-- "Each section total is p·Mo in N·cm, p in percent"
abbrev pub section_total : ℕ → ℕ → ℕ
section_total p Mo = p * Mo

-- "Inner span: 65 at both ends, 35 between"
abbrev pub inner_percent : SpanPlace → ℕ
inner_percent OuterEnd = 65
inner_percent Between = 35
inner_percent InnerEnd = 65

-- "the end-span table is five rows of three"
abbrev pub end_table : List (List ℕ)
end_table =
    (0 ∷ 63 ∷ 75 ∷ [])  -- unrestrained
    ∷ (16 ∷ 57 ∷ 70 ∷ [])  -- beams everywhere
    ∷ (26 ∷ 52 ∷ 70 ∷ [])  -- no beams
    ∷ (30 ∷ 50 ∷ 70 ∷ [])  -- edge beams only
    ∷ (65 ∷ 35 ∷ 65 ∷ [])  -- fully restrained
    ∷ []

-- the table's columns: "outer end", "between", "inner end"
abbrev pub place_column : SpanPlace → ℕ
place_column OuterEnd = 0
place_column Between = 1
place_column InnerEnd = 2

abbrev pub table_at : ℕ → ℕ → ℕ
table_at row column = get_or (get_or end_table row []) column 0

abbrev pub layout_row : Layout → ℕ
layout_row Everywhere = 1
layout_row Bare = 2
layout_row OuterOnly = 3

-- "The side's own code decides first, then the layout": 1 unrestrained, 2 fully restrained, any other code columns
unfoldable pub end_row : ℕ → Layout → ℕ
end_row code layout = cond (eqb code 1) 0 (cond (eqb code 2) 4 (layout_row layout))

unfoldable pub end_percent : ℕ → Layout → SpanPlace → ℕ
end_percent code layout place = table_at (end_row code layout) (place_column place)

-- "Negatives plus twice the positive", of a span with the percentages p
abbrev pub balance : (SpanPlace → ℕ) → ℕ → ℕ
balance p Mo = section_total (p OuterEnd) Mo + section_total (p InnerEnd) Mo + 2 * section_total (p Between) Mo
