-- What span s of line l along d reads from the floor: the numbers that its record is worked out from, and no others.
-- Assumes nothing.
use Rattle.std.specs.Prelude.{ℕ, ◌+◌, Bool, true, false, cond, List, eqb}
use Rattle.plan.specs.declared.ways.Way.{Way}
use Rattle.plan.specs.declared.ways.End.{End}
use Rattle.plan.specs.declared.ways.End.TheVariants.{Low, High}
use Rattle.plan.specs.declared.read.Bays.{Bays}
use Rattle.plan.specs.Ways.{pick, across}
use Rattle.plan.specs.Plan.{bays, column, side, span, beam_width, beam_depth, bays_of}
use Rattle.lines.specs.Lines.{outer, below, above}
use Rattle.lines.specs.Slabs.{slab_of}
use Rattle.spans.specs.declared.view.LineView.{LineView}
use Rattle.spans.specs.declared.view.EndView.{EndView}
use Rattle.spans.specs.declared.view.View.{View}

-- clear lengths lose the column along the line; past an outer line, widths gain half the column across
unfoldable pub line_view : List ℕ → Way → ℕ → LineView
line_view f d l =
    record {
      outer = outer f d l;
      below = below f d l;
      above = above f d l;
      along = column f d;
      across = column f (across d);
      width = beam_width f d l;
      depth = beam_depth f d l;
    }

-- the outer lines across, at which the frames along d end
abbrev pub end_line : Bays → Way → End → ℕ
end_line b d Low = 0
end_line b d High = pick d b.x b.y

unfoldable pub outer_end : List ℕ → Way → End → EndView
outer_end f d e =
    record {
      outer = true;
      code = side f d e;
      width = beam_width f (across d) (end_line (bays_of f) d e);
      depth = beam_depth f (across d) (end_line (bays_of f) d e);
    }

abbrev pub inner_end : EndView
inner_end = record { outer = false; code = 0; width = 0; depth = 0 }

-- either
abbrev pub end_view : List ℕ → Way → End → Bool → EndView
end_view f d e outer = cond outer (outer_end f d e) inner_end

-- the first span's low end and the last span's high end are outer ends
unfoldable pub low_end : List ℕ → Way → ℕ → EndView
low_end f d s = cond (eqb s 0) (outer_end f d Low) inner_end

unfoldable pub high_end : List ℕ → Way → ℕ → EndView
high_end f d s = cond (eqb (s + 1) (bays f d)) (outer_end f d High) inner_end

unfoldable pub view_of : List ℕ → Way → ℕ → ℕ → View
view_of f d l s =
    record { slab = slab_of f; line = line_view f d l; l1 = span f d s; low = low_end f d s; high = high_end f d s }
