-- The sum of what each limit answers is the verdict.
-- Assumes nothing.
use Prim.Native.Nat.{ℕ}
use mathlib.Core.Bool.{Bool, ◌||◌}
use mathlib.Core.List.{List}
use mathlib.Core.Path.{◌≡◌}
use lib.Dec.{ltb}
use Rattle.plan.specs.declared.ways.Way.{Way}
use Rattle.plan.specs.Ways.{pick}
use Rattle.plan.specs.declared.ways.Way.TheVariants.{X, Y}
use Rattle.lines.specs.declared.slab.Slab.{Slab}
use Rattle.lines.specs.declared.survey.Floor.{Floor}
use Rattle.lines.specs.Rows.{Spans}
use Rattle.places.specs.Asked.{SpansAlong}
use Rattle.lines.specs.Lines.{panel_thickness}
use Rattle.lines.specs.Slabs.{slab_of}
use Rattle.lines.proofs.Slabs.{bays_of_lem, loads_of}
use Rattle.limits.specs.Limits.{some_panel, too_few, few, slender_panel, uneven, astray, overloaded, heavy, unbalanced, thin_panel, sum_of, verdict}

-- the spans along d, of which 4 is asked
pub spans_of : (o : Floor) (d : Way) {s : List ℕ} → Spans o.bytes.now d s → SpansAlong o.bytes.now d s (pick d o.slab.bays.x o.slab.bays.y)
spans_of o d p = record { accepted = o.accepted; spans = p; number = (bays_of_lem o.bytes.now o.shared d).0 }

module _ (f : List ℕ) {slab : Slab} (shared : slab ≡ slab_of f) where
  pub few_is : {a : Bool} → a ≡ (too_few slab.bays.x || too_few slab.bays.y) → a ≡ few f
  unfolding few
  few_is e = cc ((bays_of_lem f shared X).0, (bays_of_lem f shared Y).0)

  pub heavy_is : {e : Bool} → e ≡ overloaded slab.dead slab.live → e ≡ heavy f
  unfolding heavy
  heavy_is q = cc ((loads_of f shared).0, (loads_of f shared).1)

  -- 64, of one panel, by its least thickness
  pub thin_of : (i j : ℕ) {v : ℕ} → v ≡ panel_thickness f i j → ltb slab.t v ≡ thin_panel f i j
  unfolding thin_panel slab_of
  thin_of i j e = rw (shared, e)

  pub summed : {a b c x y d e g h : Bool} {r : ℕ} → a ≡ (too_few slab.bays.x || too_few slab.bays.y) → b ≡ some_panel f (slender_panel f)
      → x ≡ uneven f X → y ≡ uneven f Y → c ≡ (x || y) → d ≡ astray f → e ≡ overloaded slab.dead slab.live → g ≡ unbalanced f
      → h ≡ some_panel f (thin_panel f) → r ≡ sum_of a b c d e g h → r ≡ verdict f
  unfolding verdict
  summed pa pb px py pc pd pe pg ph pr = cc (few_is pa, heavy_is pe)
