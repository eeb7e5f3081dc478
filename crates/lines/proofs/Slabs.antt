-- What a slab at hand says of its floor.
--     sized_of, laid_of, bays_of_lem, loads_of    the bays, the layout and the loads
--     surveyed, ready                         what a survey says of its floor, and what one with α of every line does
--     line_at, panel_at, stiff_panel          of one of its lines, of a panel, and of one with α of its four lines
--     some_lines, panel_few                   a direction has a second line, and a panel's bays are few
--     line_asked, beam_asked, line_is         a line at hand: its two spans, the column across it and its beam, as the rules ask for them, and α
-- Assumes nothing.
use Prim.Native.Nat.{ℕ, ◌-◌, ◌≤◌, ◌<◌}
use mathlib.Core.Bool.{Bool, cond}
use mathlib.Core.List.{List}
use mathlib.Core.Path.{◌≡◌, refl}
use native.Mathlib.Omega.{arith}
use lib.Dec.{eqb}
use lib.ListN.{get_or}
use Rattle.plan.specs.declared.ways.Way.{Way}
use Rattle.plan.specs.declared.ways.Way.TheVariants.{X, Y}
use Rattle.plan.specs.Ways.{pick, across}
use Rattle.plan.specs.Plan.{bays, thickness, column, last_line, beam_width, beam_depth, dead, live}
use Rattle.plan.specs.Asked.{Sized}
use Rattle.plan.proofs.Reading.{bays_most}
use Rattle.floor.proofs.Fair.{fair}
use Rattle.layouts.specs.Layouts.{outer_line, layout_of}
use Rattle.stiffness.specs.Asked.{Line, Beam}
use Rattle.stiffness.specs.Lines.{frame_width, alpha}
use Rattle.lines.specs.declared.slab.Slab.{Slab}
use Rattle.lines.specs.Lines.{outer, below, line_alpha}
use Rattle.lines.specs.Slabs.{slab_of}
use Rattle.floor.specs.Refusal.{refusal}
use Rattle.lines.specs.declared.survey.Survey.{Survey}
use Rattle.lines.specs.declared.survey.Lines.{Lines}
use Rattle.lines.specs.Rows.{Spans}
use Rattle.lines.specs.Asked.{LineAtHand, Surveyed, Ready, PanelAtHand, AtPanel, InPanel, StiffPanel}
use Rattle.lines.proofs.Floors.{line_of, beam_of}

module _ (f : List ℕ) {slab : Slab} (shared : slab ≡ slab_of f) where
  pub sized_of : Sized f slab.bays
  unfolding slab_of
  sized_of = rw shared (record { is = refl; x = refl; y = refl; x_most = bays_most f X; y_most = bays_most f Y })

  pub laid_of : slab.layout ≡ layout_of f
  unfolding slab_of
  laid_of = rw shared

  pub loads_of : (slab.dead ≡ dead f) × (slab.live ≡ live f)
  unfolding slab_of
  loads_of = rw shared (refl, refl)

  -- the bays along d, and the number of the last line along it
  pub bays_of_lem : (d : Way) → (pick d slab.bays.x slab.bays.y ≡ bays f d) × (pick d slab.bays.y slab.bays.x ≡ last_line f d)
  unfolding slab_of
  bays_of_lem X = rw shared (refl, refl)
  bays_of_lem Y = rw shared (refl, refl)

  column_across : (d : Way) → pick d slab.cy slab.cx ≡ column f (across d)
  unfolding slab_of
  column_across X = rw shared
  column_across Y = rw shared

  slab_t : slab.t ≡ thickness f
  unfolding slab_of
  slab_t = rw shared

module _ {f : List ℕ} {slab : Slab} {d : Way} {s : List ℕ} {l : ℕ} (p : LineAtHand f slab d s l) where
  pub line_index : l < 13
  line_index = omega (arith, p.on.line, bays_most f (across d))

  low_is : cond (eqb l 0) 0 (get_or s (l - 1) 0) ≡ below f d l
  unfolding below
  low_is = rw (p.spans.is (l - 1) (omega (arith, line_index)))

  pub beam_asked : {b h : ℕ} → b ≡ beam_width f d l → h ≡ beam_depth f d l → Beam b h slab.t
  beam_asked eb eh = rw (eb, eh, slab_t f p.shared) (beam_of f p.on.accepted d l)

  module _ {last low col : ℕ} {o : Bool} (en : last ≡ last_line f d) (eo : o ≡ outer_line last l)
      (ec : col ≡ pick d slab.cy slab.cx) (el : low ≡ cond (eqb l 0) 0 (get_or s (l - 1) 0)) where
    outer_is : o ≡ outer f d l
    outer_is = cc

    pub line_asked : Line o low (get_or s l 0) col
    line_asked =
        rw (outer_is, el, low_is, p.spans.is l line_index, ec, column_across f p.shared d) (line_of f d l p.on)

    pub line_is : {W b h r : ℕ} → W ≡ frame_width o low (get_or s l 0) col → b ≡ beam_width f d l → h ≡ beam_depth f d l → r ≡ alpha o b h W slab.t
        → r ≡ line_alpha f d l
    unfolding line_alpha
    line_is ew eb eh er = cc (outer_is, low_is, p.spans.is l line_index, column_across f p.shared d, slab_t f p.shared)

-- what a survey says of its floor, of a line and of a panel
module _ (v : Survey) where
  pub surveyed : Surveyed v.floor.bytes.now v.floor.slab v.spans
  surveyed = record { accepted = v.floor.accepted; shared = v.floor.shared; spans = v.measured }

  pub line_at : {d : Way} {s : List ℕ} {l : ℕ} → Spans v.floor.bytes.now (across d) s → l ≤ last_line v.floor.bytes.now d
      → LineAtHand v.floor.bytes.now v.floor.slab d s l
  line_at spans h = record { on = record { accepted = v.floor.accepted; line = h }; shared = v.floor.shared; spans = spans }

  pub panel_at : {i j : ℕ} → InPanel v.floor.bytes.now i j → PanelAtHand v.floor.bytes.now v.floor.slab v.spans i j
  panel_at p = record { surveyed = surveyed; x_bay = p.x_bay; y_bay = p.y_bay }

  pub stiff_panel : {a : List (List ℕ)} {i j : ℕ} → StiffPanel v.floor.bytes.now a i j → AtPanel v.floor.bytes.now v.floor.slab v.spans a i j
  stiff_panel p = record { panel = panel_at p.panel; alphas = p.alphas }

pub ready : (v : Lines) → Ready v.survey.floor.bytes.now v.survey.floor.slab v.survey.spans v.alphas
ready v = record { surveyed = surveyed v.survey; alphas = v.stiff }

-- a direction has a second line
pub some_lines : (f : List ℕ) {slab : Slab} → refusal f ≡ 0 → slab ≡ slab_of f → (d : Way) → 1 ≤ pick d slab.bays.y slab.bays.x
some_lines f e shared d = omega (arith, (bays_of_lem f shared d).1, (fair f e).bays_in (across d))

pub panel_few : {f : List ℕ} {i j : ℕ} → InPanel f i j → (i < 12) × (j < 12)
panel_few {f} p = (omega (arith, p.x_bay, bays_most f X), omega (arith, p.y_bay, bays_most f Y))
