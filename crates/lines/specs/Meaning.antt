-- What the tests of a panel mean, and what is asked of its thickness, as statements. proofs/Meaning has that each test says its statement, both
-- ways, and proofs/Enough that the least thickness is the least that is asked here.
-- Assumes nothing.
use Rattle.std.specs.Prelude.{ℕ, ◌+◌, ◌≤◌, ◌<◌, List, ◌⊎◌, ◌≡◌}
use Rattle.plan.specs.declared.ways.Way.{Way}
use Rattle.plan.specs.declared.ways.Way.TheVariants.{X, Y}
use Rattle.plan.specs.Ways.{pick}
use Rattle.plan.specs.Plan.{bays, grade}
use Rattle.layouts.specs.Meaning.{EachLine, Beamed, Outer}
use Rattle.thickness.specs.declared.PanelPlace.{PanelPlace}
use Rattle.thickness.specs.declared.PanelPlace.TheVariants.{Bare, Edged, Inner}
use Rattle.thickness.specs.LeastThickness.{Stiff, Middling, Tabled, Raised, divisor}
use Rattle.lines.specs.Lines.{line_alpha, panel_alpha, shorter_clear, longer_clear}

-- bay k is the first or the last of its direction
abbrev pub EndBay : List ℕ → Way → ℕ → Type 0
EndBay f d k = (k ≡ 0) ⊎ (k + 1 ≡ bays f d)

-- an outer panel touches at least one outer line
abbrev pub OuterPanel : List ℕ → ℕ → ℕ → Type 0
OuterPanel f i j = EndBay f X i ⊎ EndBay f Y j

-- the outer lines have beams
abbrev pub EdgeBeams : List ℕ → Type 0
EdgeBeams f = EachLine f (λ d l. Outer f d l → Beamed f d l)

-- line l along d is one of the four beside the panel: x lines j and j + 1, y lines i and i + 1
abbrev pub Bounds : ℕ → ℕ → Way → ℕ → Type 0
Bounds i j d l = (l ≡ pick d j i) ⊎ (l ≡ pick d j i + 1)

-- 02, Three: "a panel having an outer line with α below 8000"
abbrev pub WeakEdge : List ℕ → ℕ → ℕ → Type 0
WeakEdge f i j = (d : Way) × (l : ℕ) × Bounds i j d l × Outer f d l × (line_alpha f d l < 8000)

-- "outer panel without edge beams, outer with, inner"; 02, Three: "an outer panel with such a beam counts as having none"
abbrev pub PlaceIs : List ℕ → ℕ → ℕ → PanelPlace → Type 0
PlaceIs f i j Bare = OuterPanel f i j × ((¬ EdgeBeams f) ⊎ WeakEdge f i j)
PlaceIs f i j Edged = OuterPanel f i j × EdgeBeams f × ¬ WeakEdge f i j
PlaceIs f i j Inner = ¬ OuterPanel f i j

-- "Least thickness" of 01, with the place as 02, Three, has it: what is asked of the thickness t of the panel of x bay i and y bay j
pub record PanelBy01 (f : List ℕ) (i j t : ℕ) : Type 0 where
  -- "beams everywhere, S > 80000"
  pub stiff : EachLine f (Beamed f) → 80000 < panel_alpha f i j → Stiff (grade f) (shorter_clear f i j) (longer_clear f i j) t
  -- "beams everywhere, 8000 < S ≤ 80000"
  pub middling : EachLine f (Beamed f) → 8000 < panel_alpha f i j → panel_alpha f i j ≤ 80000
      → Middling (grade f) (shorter_clear f i j) (longer_clear f i j) (panel_alpha f i j) t
  -- "otherwise", with n of the panel's place
  pub tabled : ¬ (EachLine f (Beamed f) × (8000 < panel_alpha f i j)) → (place : PanelPlace) → PlaceIs f i j place
      → Tabled (divisor (grade f) place) (longer_clear f i j) t

-- 02, Three: "With beams everywhere and S above 8000, a panel having an outer line with α below 8000"
abbrev pub Raises : List ℕ → ℕ → ℕ → Type 0
Raises f i j = WeakEdge f i j × EachLine f (Beamed f) × (8000 < panel_alpha f i j)

-- what is asked of t: there "10t ≥ 11 times the answer of 01", elsewhere what 01 asks
pub record PanelEnough (f : List ℕ) (i j t : ℕ) : Type 0 where
  pub raised : Raises f i j → Raised (PanelBy01 f i j) t
  pub plain : ¬ Raises f i j → PanelBy01 f i j t
