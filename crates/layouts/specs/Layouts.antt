-- What refusals 6 and 7 ask of the spans and lines of a direction, and the layout of the beams.
-- Assumes nothing.
use Rattle.std.specs.Prelude.{ℕ, ◌+◌, ◌*◌, Bool, true, false, cond, ◌&&◌, ◌||◌, List, eqb, ltb, leb}
use Rattle.numbers.specs.Tests.{all, same}
use Rattle.plan.specs.declared.ways.Way.{Way}
use Rattle.plan.specs.declared.ways.Way.TheVariants.{X, Y}
use Rattle.layouts.specs.declared.Layout.{Layout}
use Rattle.layouts.specs.declared.Layout.TheVariants.{Everywhere, OuterOnly, Bare}
use Rattle.layouts.specs.declared.Rule.{Rule}
use Rattle.layouts.specs.declared.Rule.TheVariants.{Columns, Beams, Depth}
use Rattle.plan.specs.Plan.{bays, thickness, column, span, last_line, beam_width, beam_depth}

-- "Layouts allowed: beams on every line; on the four outer lines only; on none": which lines have a beam
abbrev pub beam_on : Layout → Bool → Bool
beam_on Everywhere outer = true
beam_on OuterOnly outer = outer
beam_on Bare outer = false

-- of lines 0 to last, the outer ones
abbrev pub outer_line : ℕ → ℕ → Bool
outer_line last l = eqb l 0 || eqb l last

-- line l, of lines 0 to last, has a beam of this width, 0 for none, exactly where the layout has one
abbrev pub beam_fits : Layout → ℕ → ℕ → ℕ → Bool
beam_fits layout width last l = same (ltb 0 width) (beam_on layout (outer_line last l))

-- what a rule asks of span or line i along d
--     Columns    6: twice the column is at most the span
--     Beams      7: there is a beam exactly where the layout has one
--     Depth      7: a beam is deeper than the slab
unfoldable pub keeps : List ℕ → Way → Rule → ℕ → Bool
keeps f d Columns i = leb (2 * column f d) (span f d i)
keeps f d (Beams layout) l = beam_fits layout (beam_width f d l) (last_line f d) l
keeps f d Depth l = eqb (beam_width f d l) 0 || ltb (thickness f) (beam_depth f d l)

-- how many spans or lines it asks that of
abbrev pub asked : List ℕ → Way → Rule → ℕ
asked f d Columns = bays f d
asked f d (Beams layout) = last_line f d + 1
asked f d Depth = last_line f d + 1

unfoldable pub kept_along : List ℕ → Way → Rule → Bool
kept_along f d rule = all (asked f d rule) (λ i. keeps f d rule i)

unfoldable pub kept : List ℕ → Rule → Bool
kept f rule = kept_along f X rule && kept_along f Y rule

-- the layout that a floor has: "where the first two coincide the floor counts as beams everywhere"
unfoldable pub layout_of : List ℕ → Layout
layout_of f =
    cond (kept f (Beams Everywhere)) Everywhere (cond (kept f (Beams OuterOnly)) OuterOnly Bare)

-- the layout as three beams tell it: on x line 0, which is outer, and on line 1 of either direction, which is outer only where it is the last; where
-- the floor's layout is allowed and there is a bay each way, it is `layout_of` (proofs/ByThree)
unfoldable pub told_by : ℕ → ℕ → ℕ → Layout
told_by first x y = cond (eqb first 0) Bare (cond (eqb x 0 || eqb y 0) OuterOnly Everywhere)

unfoldable pub told_layout : List ℕ → Layout
told_layout f = told_by (beam_width f X 0) (beam_width f X 1) (beam_width f Y 1)

-- 7: the layout is allowed, and every beam is deeper than the slab
unfoldable pub beams_ok : List ℕ → Bool
beams_ok f = kept f (Beams (layout_of f)) && kept f Depth
