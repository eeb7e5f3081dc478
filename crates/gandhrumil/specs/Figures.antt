-- "Figures to hold it against": those marked *, of every layer, as one table. α is 01's worked again as 02, Two, asks, with two more of it; the least
-- thicknesses at an edge are those that 02, Three, asks, and the two areas at d = 0 those that 02, Six, asks: docs/FIGURES.md has each by hand.
-- proofs/FiguresHold computes them under one claim.
-- Assumes nothing.
use Rattle.std.specs.Prelude.{true, false, List, [], ◌∷◌, ℕ, ◌*◌}
use Rattle.numbers.specs.Figures.{Figure, figure}
use Rattle.thickness.specs.declared.Panel.{Panel}
use Rattle.thickness.specs.declared.PanelPlace.TheVariants.{Inner}
use Rattle.layouts.specs.declared.Layout.{Layout}
use Rattle.layouts.specs.declared.Layout.TheVariants.{Everywhere, OuterOnly}
use Rattle.layouts.specs.Layouts.{outer_line}
use Rattle.lines.specs.Lines.{weak_line, place_of, is_everywhere}
use Rattle.stiffness.specs.Sections.{edge_torsion}
use Rattle.stiffness.specs.Lines.{alpha}
use Rattle.thickness.specs.LeastThickness.{least_thickness}
use Rattle.strips.specs.declared.strip.Strips.{Strips}
use Rattle.strips.specs.Moments.{static_moment}
use Rattle.strips.specs.Ratios.{torsion_ratio}
use Rattle.strips.specs.Strips.{between, inner_negative, outer_negative, column_strip, split}
use Rattle.steel.specs.Query.{query_of}
use Rattle.steel.specs.Steel.{steel_of}

-- "Total 38,290,000, part 8131, A 10000"
abbrev strips : Strips
strips = split 38290000 (column_strip 38290000 8131) 10000

-- "b 1,000, .. fc 30, fy 420"; none is refused, since "refused queries answer 0 mm or 0 mm²"
abbrev area : ℕ → ℕ → ℕ → ℕ
area M t d = (steel_of (query_of M 1000 t d 30 420)).value

-- "fy 420", beams everywhere
abbrev panel : ℕ → ℕ → ℕ → Panel
panel sn ln S = record { everywhere = true; place = Inner; fy = 420; sn = sn; ln = ln; s = S; weak = false }

-- 02, Three: of lines 0 to 3, line l is beside the panel and has this α; no other line beside it is weak
abbrev beside : Layout → ℕ → ℕ → ℕ → ℕ → ℕ → ℕ → Panel
beside layout l α fy sn ln S =
    let weak = weak_line 3 α l in
    record { everywhere = is_everywhere layout; place = place_of (outer_line 3 l) weak; fy = fy; sn = sn; ln = ln; s = S; weak = weak }

-- at an edge with beams everywhere, fy 420. No floor has S 8,000 or 8,001 with such an edge, since no beam has α 0: the rule is asked all the same.
abbrev edge : ℕ → ℕ → ℕ → ℕ → ℕ
edge α sn ln S = least_thickness (beside Everywhere 0 α 420 sn ln S)

-- a corner with edge beams only, 6,300 by 5,000, both of this α: S is above 8,000, and nothing is raised
abbrev edge_only : ℕ → ℕ → ℕ
edge_only α fy = least_thickness (beside OuterOnly 0 α fy 5000 6300 (2 * α))

unfoldable pub figures : List Figure
figures =
    figure "Mo of D 7,000, L 2,500, W 3,800, ln 4,700" (static_moment 7000 2500 3800 4700) 130111
    ∷ figure "Mo of D 2,500, L 3,000, W 5,000, ln 5,600" (static_moment 2500 3000 5000 5600) 152880
    ∷ figure "α, inside beam 350×700, W 6,000, t 165" (alpha false 350 700 6000 165) 79013
    ∷ figure "α, outer beam 300×600, W 3,200, t 180" (alpha true 300 600 3200 180) 51131
    ∷ figure "α, inside beam 300×1,000, W 6,000, t 150, f = 4t" (alpha false 300 1000 6000 150) 270564
    ∷ figure "T, outer 300×600, t 180" (edge_torsion 300 600 180) 1288509120000
    ∷ figure "B of that T, l2 6,000, t 180" (torsion_ratio (edge_torsion 300 600 180) 6000 180) 7364
    ∷ figure "between at A 10000, R 7894" (between 10000 7894) 8131
    ∷ figure "inner negative at A 10000, R 7894" (inner_negative 10000 7894) 8131
    ∷ figure "between at A 10000, R 20000" (between 10000 20000) 4500
    ∷ figure "inner negative at A 10000, R 20000" (inner_negative 10000 20000) 4500
    ∷ figure "outer negative at A 10000, R 20000, B 25000" (outer_negative 10000 20000 25000) 4500
    ∷ figure "between at A 10000, R 5000" (between 10000 5000) 9000
    ∷ figure "inner negative at A 10000, R 5000" (inner_negative 10000 5000) 9000
    ∷ figure "outer negative at A 10000, R 5000, B 25000" (outer_negative 10000 5000 25000) 9000
    ∷ figure "between at A 0, R 5000" (between 0 5000) 6000
    ∷ figure "inner negative at A 0, R 5000" (inner_negative 0 5000) 7500
    ∷ figure "column strip of total 38,290,000, part 8131" strips.column 31133599
    ∷ figure "middle strip of that total" strips.middle 7156401
    ∷ figure "beam of that column strip, A 10000" strips.beam 26463559
    ∷ figure "slab of that column strip" strips.slab 4670040
    ∷ figure "least thickness, fy 420: 6,300 by 5,000, S 92,000" (least_thickness (panel 5000 6300 92000)) 147
    ∷ figure "least thickness, fy 420: 5,500 by 5,000, S 68,000" (least_thickness (panel 5000 5500 68000)) 137
    ∷ figure "least thickness, fy 420: 6,300 by 5,000, S 80,001, edge α 7,999" (edge 7999 5000 6300 80001) 162
    ∷ figure "least thickness, fy 420: 6,300 by 5,000, S 80,001, edge α 8,000" (edge 8000 5000 6300 80001) 147
    ∷ figure "least thickness, fy 420: 6,300 by 5,000, S 80,000, edge α 7,999" (edge 7999 5000 6300 80000) 162
    ∷ figure "least thickness, fy 420: 6,300 by 5,000, S 80,000, edge α 8,000" (edge 8000 5000 6300 80000) 147
    ∷ figure "least thickness, fy 420: 6,300 by 5,000, S 8,001, edge α 7,999" (edge 7999 5000 6300 8001) 213
    ∷ figure "least thickness, fy 420: 6,300 by 5,000, S 8,001, edge α 8,000" (edge 8000 5000 6300 8001) 193
    ∷ figure "least thickness, fy 420: 6,300 by 5,000, S 8,000, edge α 7,999" (edge 7999 5000 6300 8000) 210
    ∷ figure "least thickness, fy 420: 6,300 by 5,000, S 8,000, edge α 8,000" (edge 8000 5000 6300 8000) 191
    ∷ figure "least thickness, fy 420: 6,300 by 5,000, S 80,001, no outer line, α 7,999" (least_thickness (beside Everywhere 1 7999 420 5000 6300 80001)) 147
    ∷ figure "least thickness, 1,000 by 1,000, S 80,001, edge α 7,999" (edge 7999 1000 1000 80001) 99
    ∷ figure "least thickness, 1,000 by 1,000, S 80,001, edge α 8,000" (edge 8000 1000 1000 80001) 90
    ∷ figure "least thickness, 1,000 by 1,000, S 80,000, edge α 7,999" (edge 7999 1000 1000 80000) 138
    ∷ figure "least thickness, 1,000 by 1,000, S 80,000, edge α 8,000" (edge 8000 1000 1000 80000) 125
    ∷ figure "least thickness, fy 520: 11,800 by 11,800, S 8,001, edge α 7,999" (least_thickness (beside Everywhere 0 7999 520 11800 11800 8001)) 423
    ∷ figure "least thickness, fy 280: 6,300, edge beams only, α 7,999" (edge_only 7999 280) 191
    ∷ figure "least thickness, fy 280: 6,300, edge beams only, α 8,000" (edge_only 8000 280) 175
    ∷ figure "least thickness, fy 420: 6,300, edge beams only, α 7,999" (edge_only 7999 420) 210
    ∷ figure "least thickness, fy 420: 6,300, edge beams only, α 8,000" (edge_only 8000 420) 191
    ∷ figure "least thickness, fy 520: 6,300, edge beams only, α 7,999" (edge_only 7999 520) 225
    ∷ figure "least thickness, fy 520: 6,300, edge beams only, α 8,000" (edge_only 8000 520) 204
    ∷ figure "As of M 2,195,000, b 1,000, t 150, d 124, fc 30, fy 420" (area 2195000 150 124) 484
    ∷ figure "As of M 0" (area 0 150 124) 270
    ∷ figure "As of M 2,195,000, t 150, d 0, which stands for 112" (area 2195000 150 0) 540
    ∷ figure "As of M 500,000, t 90, d 0, which stands for 52" (area 500000 90 0) 266
    ∷ []
