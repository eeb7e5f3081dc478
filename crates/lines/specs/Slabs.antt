-- What all panels and all spans of a floor share.
-- Assumes nothing.
use Rattle.std.specs.Prelude.{ℕ, List}
use Rattle.plan.specs.declared.ways.Way.TheVariants.{X, Y}
use Rattle.plan.specs.Plan.{thickness, grade, column, dead, live, bays_of}
use Rattle.layouts.specs.Layouts.{layout_of}
use Rattle.lines.specs.declared.slab.Slab.{Slab}

unfoldable pub slab_of : List ℕ → Slab
slab_of f =
    record {
      layout = layout_of f;
      bays = bays_of f;
      t = thickness f;
      fy = grade f;
      cx = column f X;
      cy = column f Y;
      dead = dead f;
      live = live f;
    }
