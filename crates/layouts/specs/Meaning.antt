-- Refusals 6 and 7, as statements: what each asks of the spans and lines of a floor, and the layout that a floor has.
-- That the tests of `Layouts` say these statements is proved in proofs/Beams.
-- Assumes nothing.
use Rattle.std.specs.Prelude.{ℕ, ◌*◌, ◌≤◌, ◌<◌, List, ◌⊎◌, ◌↔◌, ◌≡◌}
use Rattle.plan.specs.declared.ways.Way.{Way}
use Rattle.layouts.specs.declared.Layout.{Layout}
use Rattle.layouts.specs.declared.Layout.TheVariants.{Everywhere, OuterOnly, Bare}
use Rattle.plan.specs.Plan.{bays, thickness, column, span, last_line, beam_width, beam_depth}
use Rattle.layouts.specs.Layouts.{layout_of}

-- 6 "2cx exceeds an x span, or 2cy a y span"
abbrev pub ColumnsFit : List ℕ → Type 0
ColumnsFit f = (d : Way) (i : ℕ) → i < bays f d → 2 * column f d ≤ span f d i

-- every line along either direction has P; some line has P
abbrev pub EachLine : List ℕ → (Way → ℕ → Type 0) → Type 0
EachLine f P = (d : Way) (l : ℕ) → l ≤ last_line f d → P d l

abbrev pub SomeLine : List ℕ → (Way → ℕ → Type 0) → Type 0
SomeLine f P = (d : Way) × (l : ℕ) × (l ≤ last_line f d) × P d l

-- line l along d has a beam: "a beam record of zeros means no beam"
abbrev pub Beamed : List ℕ → Way → ℕ → Type 0
Beamed f d l = 0 < beam_width f d l

-- the first and the last of a direction's lines: both directions together have "the four outer lines"
abbrev pub Outer : List ℕ → Way → ℕ → Type 0
Outer f d l = (l ≡ 0) ⊎ (l ≡ last_line f d)

-- "Layouts allowed: beams on every line; on the four outer lines only; on none": whether the layout has a beam on a line
abbrev pub HasBeam : Layout → Type 0 → Type 0
HasBeam Everywhere outer = Unit
HasBeam OuterOnly outer = outer
HasBeam Bare outer = ⊥

-- the floor has beams exactly where the layout has them
abbrev pub LaidOut : List ℕ → Layout → Type 0
LaidOut f layout = EachLine f (λ d l. Beamed f d l ↔ HasBeam layout (Outer f d l))

-- 7 "layout not allowed, or a line has a beam whose depth is not above t"
abbrev pub LayoutAllowed : List ℕ → Type 0
LayoutAllowed f = (layout : Layout) × LaidOut f layout

abbrev pub BeamsDeep : List ℕ → Type 0
BeamsDeep f = EachLine f (λ d l. Beamed f d l → thickness f < beam_depth f d l)

-- ---- the layout that an accepted floor has

pub record LayoutIs (f : List ℕ) : Type 0 where
  pub everywhere : (layout_of f ≡ Everywhere) ↔ EachLine f (Beamed f)
  pub outer_only : (layout_of f ≡ OuterOnly) ↔ (EachLine f (λ d l. Beamed f d l ↔ Outer f d l) × SomeLine f (λ d l. ¬ Beamed f d l))
  pub bare : (layout_of f ≡ Bare) ↔ EachLine f (λ d l. ¬ Beamed f d l)
