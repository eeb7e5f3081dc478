-- What leaves ask of their callers. A reader who only wants to know what the program does need not read this file.
-- The numbers of an accepted floor have these ranges: "The floor file", refusals 5 to 7.
-- Assumes nothing.
use Rattle.std.specs.Prelude.{ℕ, ◌*◌, ◌%◌, ◌≤◌, ◌<◌, min, max, Bool, cond, ◌⊎◌, ◌≡◌}
use Rattle.stiffness.specs.Sections.{flange}

-- a span: 1,000..12,000, a multiple of 20
pub record Span (l : ℕ) : Type 0 where
  pub least : 1000 ≤ l
  pub most : l ≤ 12000
  pub twenties : l % 20 ≡ 0

-- a column's side: 200..1,500, a multiple of 10
pub record Column (c : ℕ) : Type 0 where
  pub least : 200 ≤ c
  pub most : c ≤ 1500
  pub tens : c % 10 ≡ 0

-- a span on one side of a line, none on the other, which reads 0
abbrev pub OneSpan : ℕ → ℕ → Type 0
OneSpan below above = ((below ≡ 0) × (1000 ≤ above)) ⊎ ((1000 ≤ below) × (above ≡ 0))

-- the spans on the low and on the high side of a line: one at an outer line, two at a line inside
pub record Beside (outer : Bool) (below above : ℕ) : Type 0 where
  pub below_most : below ≤ 12000
  pub below_twenties : below % 20 ≡ 0
  pub above_most : above ≤ 12000
  pub above_twenties : above % 20 ≡ 0
  pub there : cond outer (OneSpan below above) ((1000 ≤ below) × (1000 ≤ above))

-- with the column's side across the frame
pub record Line (outer : Bool) (below above column : ℕ) : Type 0 where
  pub spans : Beside outer below above
  pub across : Column column

-- the frame width W of a line
pub record Frame (W : ℕ) : Type 0 where
  pub least : 600 ≤ W
  pub most : W ≤ 12000

-- a beam's depth over the slab: refusal 7 asks for more than t
pub record Deeper (h t : ℕ) : Type 0 where
  pub above : t < h
  pub most : h ≤ 1500

-- a slab and the beam on a line of it, of width 0 where there is none
pub record Beam (b h t : ℕ) : Type 0 where
  pub width_most : b ≤ 1000
  pub depth_most : h ≤ 1500
  pub above : 0 < b → t < h
  pub slab_least : 90 ≤ t
  pub slab_most : t ≤ 500

-- a beam that is there, with a flange that adds p at its top
pub record Flanged (b h p t : ℕ) : Type 0 where
  pub beam : Beam b h t
  pub there : 0 < b
  pub most : p ≤ 2 * flange h t

-- the sides of its two rectangles, b by h and p by t
pub record Part (b h : ℕ) : Type 0 where
  pub width_most : b ≤ 2400
  pub depth_most : h ≤ 1500

-- what is divided in the last term of their inertia, and by what
pub record Term (apart areas : ℕ) : Type 0 where
  pub most : apart ≤ 4805419921875000000
  pub there : 0 < areas
  pub areas_most : areas ≤ 7200000

-- the sides of a rectangle whose torsion is asked: b by h, f by t, b by h − t, b + f by t
pub record Sides (a b : ℕ) : Type 0 where
  pub shorter : min a b ≤ 1000
  pub longer : max a b ≤ 2200
