-- What the tests of a panel say, both ways.
--     says_end            a bay touches an outer line where it is the first or the last
--     says_outer_panel    so does a panel, by either of its bays
--     says_weak           a panel has an outer line with α below 8000: one of four, tested two by two
--     says_everywhere     beams everywhere: every line of an accepted floor has one
-- Assumes nothing.
use Prim.Native.Nat.{ℕ, ◌+◌, ◌<◌}
use mathlib.Core.Bool.{false≢true}
use mathlib.Core.List.{List}
use mathlib.Core.Logic.{◌⊎◌, inl, inr, ⊎_elim}
use mathlib.Core.Path.{◌≡◌, refl, subst}
use native.Mathlib.Omega.{arith}
use Rattle.numbers.specs.Tests.{Says}
use Rattle.numbers.proofs.Tests.{says_or, says_and, says_lt, says_as}
use Rattle.plan.specs.declared.ways.Way.{Way}
use Rattle.plan.specs.declared.ways.Way.TheVariants.{X, Y}
use Rattle.plan.specs.Ways.{pick, across}
use Rattle.plan.specs.Plan.{bays, last_line}
use Rattle.layouts.specs.declared.Layout.{Layout}
use Rattle.layouts.specs.declared.Layout.TheVariants.{Everywhere, OuterOnly, Bare}
use Rattle.layouts.specs.Layouts.{layout_of}
use Rattle.floor.specs.Refusal.{refusal}
use Rattle.layouts.specs.Meaning.{Outer, EachLine, Beamed}
use Rattle.floor.proofs.Fair.{fair}
use Rattle.layouts.proofs.Beams.{says_outer}
use Rattle.lines.specs.Lines.{touches, outer_panel, line_alpha, weak_line, weak_beside, weak_edge, is_everywhere}
use Rattle.lines.specs.Meaning.{EndBay, OuterPanel, Bounds, WeakEdge}

module _ (f : List ℕ) where
  says_end : (d : Way) {k : ℕ} → k < last_line f d → Says (touches f d k) (EndBay f (across d) k)
  says_end d {k} h = says_as to from (says_or (says_outer f d k) (says_outer f d (k + 1)))
    where
      to : Outer f d k ⊎ Outer f d (k + 1) → EndBay f (across d) k
      to (inl (inl z)) = inl z
      to (inl (inr z)) = absurd (omega arith)
      to (inr (inl z)) = absurd (omega arith)
      to (inr (inr z)) = inr z

      from : EndBay f (across d) k → Outer f d k ⊎ Outer f d (k + 1)
      from (inl z) = inl (inl z)
      from (inr z) = inr (inr z)

  pub says_outer_panel : {i j : ℕ} → i < bays f X → j < bays f Y → Says (outer_panel f i j) (OuterPanel f i j)
  unfolding outer_panel
  says_outer_panel hi hj = says_as (⊎_elim inr inl) (⊎_elim inr inl) (says_or (says_end X hj) (says_end Y hi))

  module _ (i j : ℕ) where
    -- one of the two lines along d beside the panel is such a line
    abbrev Weak : Way → Type 0
    Weak d = (l : ℕ) × Bounds i j d l × Outer f d l × (line_alpha f d l < 8000)

    says_weak_along : (d : Way) → Says (weak_beside f d (pick d j i)) (Weak d)
    says_weak_along d = says_as to from (says_or (says_line (pick d j i)) (says_line (pick d j i + 1)))
      where
        At : ℕ → Type 0
        At l = Outer f d l × (line_alpha f d l < 8000)

        says_line : (l : ℕ) → Says (weak_line (last_line f d) (line_alpha f d l) l) (At l)
        says_line l = says_and (says_outer f d l) (says_lt (line_alpha f d l) 8000)

        to : At (pick d j i) ⊎ At (pick d j i + 1) → Weak d
        to (inl w) = (pick d j i, inl refl, w.0, w.1)
        to (inr w) = (pick d j i + 1, inr refl, w.0, w.1)

        from : Weak d → At (pick d j i) ⊎ At (pick d j i + 1)
        from (l, inl e, o, h) = inl (subst At e (o, h))
        from (l, inr e, o, h) = inr (subst At e (o, h))

    pub says_weak : Says (weak_edge f i j) (WeakEdge f i j)
    unfolding weak_edge
    says_weak = says_as to from (says_or (says_weak_along X) (says_weak_along Y))
      where
        to : Weak X ⊎ Weak Y → WeakEdge f i j
        to (inl (l, b, o, h)) = (X, l, b, o, h)
        to (inr (l, b, o, h)) = (Y, l, b, o, h)

        from : WeakEdge f i j → Weak X ⊎ Weak Y
        from (X, l, b, o, h) = inl (l, b, o, h)
        from (Y, l, b, o, h) = inr (l, b, o, h)

  pub says_everywhere : refusal f ≡ 0 → Says (is_everywhere (layout_of f)) (EachLine f (Beamed f))
  says_everywhere e = let is = (fair f e).layout_is.everywhere in says_as is.0 is.1 (says_layout (layout_of f))
    where
      says_layout : (layout : Layout) → Says (is_everywhere layout) (layout ≡ Everywhere)
      says_layout Everywhere = record { holds = λ e. refl; passes = λ e. refl }
      says_layout OuterOnly = record { holds = λ e. absurd (false≢true e); passes = λ e. cc }
      says_layout Bare = record { holds = λ e. absurd (false≢true e); passes = λ e. cc }
