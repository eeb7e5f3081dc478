-- What leaves ask of their callers. A reader who only wants to know what the program does need not read this file.
-- Assumes nothing.
use Rattle.std.specs.Prelude.{ℕ, ◌+◌, ◌≤◌, ◌<◌, List, ◌≡◌, get_or}
use Rattle.plan.specs.declared.ways.Way.{Way}
use Rattle.plan.specs.declared.ways.Way.TheVariants.{X, Y}
use Rattle.plan.specs.Ways.{across}
use Rattle.plan.specs.Plan.{bays, last_line}
use Rattle.floor.specs.Refusal.{refusal}
use Rattle.lines.specs.declared.slab.Slab.{Slab}
use Rattle.lines.specs.Slabs.{slab_of}
use Rattle.lines.specs.Rows.{Spans, AllSpans, AllAlphas, PanelAlphas, PanelAlphaRows}

-- line l along d of an accepted floor
pub record OnLine (f : List ℕ) (d : Way) (l : ℕ) : Type 0 where
  pub accepted : refusal f ≡ 0
  pub line : l ≤ last_line f d

-- bay k along d of an accepted floor
pub record InBay (f : List ℕ) (d : Way) (k : ℕ) : Type 0 where
  pub accepted : refusal f ≡ 0
  pub bay : k < bays f d

-- line l along d, with what the floor's panels share and the spans across the line
pub record LineAtHand (f : List ℕ) (slab : Slab) (d : Way) (s : List ℕ) (l : ℕ) : Type 0 where
  pub on : OnLine f d l
  pub shared : slab ≡ slab_of f
  pub spans : Spans f (across d) s

-- an accepted floor with what its panels share, and all its spans
pub record Surveyed (f : List ℕ) (slab : Slab) (s : List (List ℕ)) : Type 0 where
  pub accepted : refusal f ≡ 0
  pub shared : slab ≡ slab_of f
  pub spans : AllSpans f s

-- and α of all its lines
pub record Ready (f : List ℕ) (slab : Slab) (s a : List (List ℕ)) : Type 0 where
  pub surveyed : Surveyed f slab s
  pub alphas : AllAlphas f a

-- the panel of x bay i and y bay j
pub record PanelAtHand (f : List ℕ) (slab : Slab) (s : List (List ℕ)) (i j : ℕ) : Type 0 where
  pub surveyed : Surveyed f slab s
  pub x_bay : i < bays f X
  pub y_bay : j < bays f Y

-- and α of its four lines
pub record AtPanel (f : List ℕ) (slab : Slab) (s a : List (List ℕ)) (i j : ℕ) : Type 0 where
  pub panel : PanelAtHand f slab s i j
  pub alphas : PanelAlphas f i j a

-- α of the four lines around the first panel, and of no other line
pub record FirstPanelAlphas (f : List ℕ) (slab : Slab) (s a : List (List ℕ)) : Type 0 where
  pub surveyed : Surveyed f slab s
  pub near : PanelAlphaRows f 0 0 a

-- bay k, of whose span the column takes a part
pub record Clearing (s : List ℕ) (column k : ℕ) : Type 0 where
  pub index : k < 13
  pub shorter : column ≤ get_or s k 0

-- two α that stand one after the other
pub record TwoAlphas (a : List ℕ) (k : ℕ) : Type 0 where
  pub index : k < 12
  pub low : get_or a k 0 ≤ 200000000
  pub high : get_or a (k + 1) 0 ≤ 200000000

-- the floor has a panel of x bay i and y bay j
pub record InPanel (f : List ℕ) (i j : ℕ) : Type 0 where
  pub x_bay : i < bays f X
  pub y_bay : j < bays f Y

-- and α of its four lines is at hand
pub record StiffPanel (f : List ℕ) (a : List (List ℕ)) (i j : ℕ) : Type 0 where
  pub panel : InPanel f i j
  pub alphas : PanelAlphas f i j a

-- α of the four lines around the first panel is, and of no other line
pub record NearAlphas (f : List ℕ) (a : List (List ℕ)) : Type 0 where
  pub near : PanelAlphaRows f 0 0 a
