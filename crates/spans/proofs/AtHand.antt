-- What is read with the bays and the slab at hand is the floor's.
-- Assumes nothing.
use Prim.Native.Nat.{ℕ}
use mathlib.Core.List.{List}
use mathlib.Core.Path.{◌≡◌, refl, ap, ◌∙◌}
use Rattle.plan.specs.declared.ways.Way.{Way}
use Rattle.plan.specs.declared.ways.Way.TheVariants.{X, Y}
use Rattle.plan.specs.declared.read.Bays.{Bays}
use Rattle.plan.specs.Ways.{pick, across}
use Rattle.plan.specs.Plan.{bays, column, span, last_line, beam_width, beam_depth}
use Rattle.plan.specs.Asked.{Sized}
use Rattle.lines.specs.declared.slab.Slab.{Slab}
use Rattle.layouts.specs.Layouts.{outer_line}
use Rattle.lines.specs.Lines.{below, line_alpha}
use Rattle.lines.specs.Slabs.{slab_of}
use Rattle.lines.proofs.Slabs.{sized_of}
use Rattle.spans.specs.declared.view.LineView.{LineView}
use Rattle.spans.specs.Views.{line_view}
use Rattle.spans.specs.Works.{alpha_of}

pub along_is : {f : List ℕ} {b : Bays} → Sized f b → (d : Way) → pick d b.x b.y ≡ bays f d
along_is h X = h.x
along_is h Y = h.y

module _ (f : List ℕ) {slab : Slab} (e : slab ≡ slab_of f) where
  pub along_of : (d : Way) → pick d slab.bays.x slab.bays.y ≡ bays f d
  along_of = along_is (sized_of f e)

  pub column_is : (d : Way) → pick d slab.cx slab.cy ≡ column f d
  unfolding slab_of
  column_is X = rw e
  column_is Y = rw e

  -- the view of a line, number by number
  pub line_is : (d : Way) (l : ℕ) {over : Way} {last : ℕ} {v : LineView} → over ≡ across d → last ≡ pick over slab.bays.x slab.bays.y
      → v.outer ≡ outer_line last l → v.below ≡ below f d l → v.above ≡ span f over l
      → v.along ≡ pick d slab.cx slab.cy → v.across ≡ pick over slab.cx slab.cy
      → v.width ≡ beam_width f d l → v.depth ≡ beam_depth f d l → v ≡ line_view f d l
  unfolding line_view
  line_is d l {last = last} {v} eo en outer low high along over width depth =
      let count : last ≡ last_line f d = en ∙ rw eo (along_of (across d)) in
      let crossing : v.across ≡ column f (across d) = over ∙ rw eo (column_is (across d)) in
      λ i. record {
        outer = (outer ∙ ap (λ (n : ℕ). outer_line n l) count) i;
        below = low i;
        above = (high ∙ ap (λ (w : Way). span f w l) eo) i;
        along = (along ∙ column_is d) i;
        across = crossing i;
        width = width i;
        depth = depth i;
      }

-- α of a line is that of its view
pub alpha_is : (f : List ℕ) (d : Way) (l : ℕ) → line_alpha f d l ≡ alpha_of (line_view f d l) (slab_of f).t
unfolding line_alpha line_view slab_of
alpha_is f d l = refl
