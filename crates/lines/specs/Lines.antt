-- "Line stiffness" and "Least thickness", of a floor: the widths and α of its lines, and the least thickness of its panels, with 02, Three.
-- Assumes nothing.
use Rattle.std.specs.Prelude.{ℕ, ◌+◌, ◌-◌, min, max, Bool, true, false, cond, ◌&&◌, ◌||◌, List, eqb, ltb}
use Rattle.plan.specs.declared.ways.Way.{Way}
use Rattle.plan.specs.declared.ways.Way.TheVariants.{X, Y}
use Rattle.plan.specs.Ways.{across}
use Rattle.plan.specs.Plan.{thickness, grade, column, span, last_line, beam_width, beam_depth}
use Rattle.layouts.specs.declared.Layout.{Layout}
use Rattle.layouts.specs.declared.Layout.TheVariants.{Everywhere, OuterOnly, Bare}
use Rattle.layouts.specs.Layouts.{outer_line, layout_of}
use Rattle.thickness.specs.declared.Panel.{Panel}
use Rattle.thickness.specs.declared.PanelPlace.{PanelPlace}
use Rattle.thickness.specs.declared.PanelPlace.TheVariants.{Edged, Inner}
use Rattle.stiffness.specs.Lines.{frame_width, alpha}
use Rattle.thickness.specs.LeastThickness.{least_thickness}

-- ---- line l along d

abbrev pub outer : List ℕ → Way → ℕ → Bool
outer f d l = outer_line (last_line f d) l

-- the spans on its low and on its high side, 0 past an outer line
unfoldable pub below : List ℕ → Way → ℕ → ℕ
below f d l = cond (eqb l 0) 0 (span f (across d) (l - 1))

abbrev pub above : List ℕ → Way → ℕ → ℕ
above f d l = span f (across d) l

-- "Frame width W"
abbrev pub line_width : List ℕ → Way → ℕ → ℕ
line_width f d l = frame_width (outer f d l) (below f d l) (above f d l) (column f (across d))

-- α
unfoldable pub line_alpha : List ℕ → Way → ℕ → ℕ
line_alpha f d l = alpha (outer f d l) (beam_width f d l) (beam_depth f d l) (line_width f d l) (thickness f)

-- ---- the panel of x bay i and y bay j lies between x lines j and j + 1, and y lines i and i + 1

-- the sum of α of the two lines along d beside bay k across d
unfoldable pub pair_alpha : List ℕ → Way → ℕ → ℕ
pair_alpha f d k = line_alpha f d k + line_alpha f d (k + 1)

-- "S the sum of its four line α"
abbrev pub panel_alpha : List ℕ → ℕ → ℕ → ℕ
panel_alpha f i j = pair_alpha f X j + pair_alpha f Y i

-- "clear spans (span − column)"
unfoldable pub clear_span : List ℕ → Way → ℕ → ℕ
clear_span f d k = span f d k - column f d

-- the panel's shorter and longer clear span
abbrev pub shorter_clear : List ℕ → ℕ → ℕ → ℕ
shorter_clear f i j = min (clear_span f X i) (clear_span f Y j)

abbrev pub longer_clear : List ℕ → ℕ → ℕ → ℕ
longer_clear f i j = max (clear_span f X i) (clear_span f Y j)

-- an outer panel touches at least one outer line
abbrev pub touches : List ℕ → Way → ℕ → Bool
touches f d k = outer f d k || outer f d (k + 1)

unfoldable pub outer_panel : List ℕ → ℕ → ℕ → Bool
outer_panel f i j = touches f X j || touches f Y i

-- 02, Three: "an outer line with α below 8000", of lines 0 to last; "for columns, walls and masonry edges alike", so that the side's code is not asked
abbrev pub weak_line : ℕ → ℕ → ℕ → Bool
weak_line last α l = outer_line last l && ltb α 8000

-- one of lines k and k + 1 is such a line
abbrev pub weak_pair : ℕ → (ℕ → ℕ) → ℕ → Bool
weak_pair last α k = weak_line last (α k) k || weak_line last (α (k + 1)) (k + 1)

-- of the two along d beside bay k across d
abbrev pub weak_beside : List ℕ → Way → ℕ → Bool
weak_beside f d = weak_pair (last_line f d) (line_alpha f d)

-- of the panel's four
unfoldable pub weak_edge : List ℕ → ℕ → ℕ → Bool
weak_edge f i j = weak_beside f X j || weak_beside f Y i

-- "outer panel without edge beams, outer with, inner"; 02, Three: "an outer panel with such a beam counts as having none". A line without a beam has α 0,
-- so that the same test tells both of the first (`Meaning: PlaceIs` names them apart).
abbrev pub place_of : Bool → Bool → PanelPlace
place_of outside weak = cond outside (cond weak Rattle.thickness.specs.declared.PanelPlace.TheVariants.Bare Edged) Inner

unfoldable pub panel_place : List ℕ → ℕ → ℕ → PanelPlace
panel_place f i j = place_of (outer_panel f i j) (weak_edge f i j)

-- "beams everywhere"
abbrev pub is_everywhere : Layout → Bool
is_everywhere Everywhere = true
is_everywhere OuterOnly = false
is_everywhere Bare = false

-- what the thickness of the panel is asked from
unfoldable pub panel_view : List ℕ → ℕ → ℕ → Panel
panel_view f i j =
    record {
      everywhere = is_everywhere (layout_of f);
      place = panel_place f i j;
      fy = grade f;
      sn = shorter_clear f i j;
      ln = longer_clear f i j;
      s = panel_alpha f i j;
      weak = weak_edge f i j;
    }

-- the least that it comes to; what is asked of it is said in `Meaning: PanelEnough`
unfoldable pub panel_thickness : List ℕ → ℕ → ℕ → ℕ
panel_thickness f i j = least_thickness (panel_view f i j)
