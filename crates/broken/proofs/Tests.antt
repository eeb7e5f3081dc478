-- What the test of a limit asks at one of its places, and what it then says.
--     bays_some, few_at             the bays of an accepted floor, and limit 1
--     extent_is, extent_most        the extent of a limit's places, as it is worked out
--     at_place, in_row              a place of a row, and a row
--     place_as, .._asks             its statement, once its limit is known, and what that limit's test asks
-- Assumes nothing.
use Prim.Native.Nat.{ℕ, ◌+◌, ◌*◌, ◌<◌, ◌≤◌}
use mathlib.Core.Bool.{Bool}
use mathlib.Core.List.{List}
use mathlib.Core.Path.{◌≡◌, subst, ap, ◌∙◌}
use native.Mathlib.Omega.{arith}
use Rattle.plan.specs.declared.ways.Way.{Way}
use Rattle.plan.specs.declared.ways.Way.TheVariants.{X, Y}
use Rattle.plan.specs.Ways.{pick}
use Rattle.plan.specs.declared.read.Bays.{Bays}
use Rattle.plan.specs.Plan.{bays, bays_of}
use Rattle.floor.proofs.Fair.{fair}
use Rattle.lines.specs.declared.survey.Floor.{Floor}
use Rattle.lines.specs.declared.survey.Lines.{Lines}
use Rattle.lines.specs.Asked.{InPanel, StiffPanel}
use Rattle.lines.proofs.Slabs.{sized_of, bays_of_lem}
use Rattle.lines.proofs.Filled.{stiff_at}
use Rattle.limits.specs.declared.Limit.{Limit}
use Rattle.limits.specs.declared.Limit.TheVariants.{Few, Slender, Uneven, Astray, Heavy, Unbalanced, Thin}
use Rattle.limits.specs.Limits.{too_few}
use Rattle.limits.specs.Places.{extent}
use Rattle.limits.specs.Meaning.{PanelAt, PlaceOf}
use Rattle.limits.proofs.Places.{in_place}
use Rattle.places.specs.Asked.{HasNext, HasColumn}
use Rattle.broken.specs.Asked.{SomeBays, AtPlace, InRow, Along}

module _ (o : Floor) where
  pub bays_some : SomeBays o.slab.bays
  bays_some =
      let b = bays_of_lem o.bytes.now o.shared in
      let n = (fair o.bytes.now o.accepted).bays_in in
      record { x_some = omega (arith, (b X).0, n X); x_most = omega (arith, (b X).0, n X); y_some = omega (arith, (b Y).0, n Y); y_most = omega (arith, (b Y).0, n Y) }

  pub few_at : (d : Way) {n : ℕ} {b : Bool} → n ≡ pick d o.slab.bays.x o.slab.bays.y → b ≡ too_few n → b ≡ too_few (bays o.bytes.now d)
  few_at d e q = q ∙ rw (e, (bays_of_lem o.bytes.now o.shared d).0)

-- ---- the extent of a limit's places

-- no more than thirteen i and thirteen j
most : (l : Limit) (d : Way) {b : Bays} → SomeBays b → ((extent l d b).x ≤ 13) × ((extent l d b).y ≤ 13)
most Few d h = (omega arith, omega arith)
most Slender X h = (omega (arith, h.x_most), omega (arith, h.y_most))
most Slender Y h = (omega arith, omega arith)
most Uneven X h = (omega (arith, h.x_most), omega arith)
most Uneven Y h = (omega arith, omega (arith, h.y_most))
most Astray d h = (omega (arith, h.x_most), omega (arith, h.y_most))
most Heavy X h = (omega arith, omega arith)
most Heavy Y h = (omega arith, omega arith)
most Unbalanced X h = (omega (arith, h.x_most), omega (arith, h.y_most))
most Unbalanced Y h = (omega arith, omega arith)
most Thin X h = (omega (arith, h.x_most), omega (arith, h.y_most))
most Thin Y h = (omega arith, omega arith)

-- as worked out from the bays at hand
module _ (o : Floor) (l : Limit) (d : Way) {e : Bays} (q : e ≡ extent l d o.slab.bays) where
  pub extent_is : e ≡ extent l d (bays_of o.bytes.now)
  extent_is = q ∙ ap (λ (b : Bays). extent l d b) (sized_of o.bytes.now o.shared).is

  pub extent_most : (e.x ≤ 13) × (e.y ≤ 13)
  extent_most = rw q (most l d (bays_some o))

-- place i of row j
pub at_place : (o : Floor) {l : Limit} {d : Way} {i j n : ℕ} {e : Bays} → InRow o.bytes.now l d j n → e ≡ extent l d o.slab.bays → i < e.x
    → AtPlace o.bytes.now l d i j
at_place o {l} {d} p q h = let x = ap (λ (b : Bays). b.x) (extent_is o l d q) in record { place = in_place o.bytes.now l d (omega (arith, h, x)) p.row }

-- row j, when 13 places or fewer were listed for each row before it
pub in_row : (o : Floor) {n : ℕ} → Along n → (l : Limit) (d : Way) {e : Bays} {j m : ℕ} → e ≡ extent l d o.slab.bays → j < e.y → m ≤ n + 13 * j
    → InRow o.bytes.now l d j m
in_row o p l d q h few =
    let y = ap (λ (b : Bays). b.y) (extent_is o l d q) in
    record { row = omega (arith, h, y); most = omega (arith, h, few, p.most, extent_most o l d q) }

-- ---- a place

-- its statement, once its limit is known
pub place_as : {f : List ℕ} {l : Limit} {d : Way} {i j : ℕ} → AtPlace f l d i j → {k : Limit} → l ≡ k → PlaceOf f k d i j
place_as {f} {d = d} {i} {j} p e = subst (λ m. PlaceOf f m d i j) e p.place

-- what a test of a panel asks
pub panel_asks : (v : Lines) (d : Way) {i j : ℕ} → PanelAt v.survey.floor.bytes.now d i j → StiffPanel v.survey.floor.bytes.now v.alphas i j
panel_asks v d h = stiff_at v.stiff h.1 h.2

-- and what the tests of the others ask: a panel, a span with one after it, a column
module _ {f : List ℕ} {l : Limit} {d : Way} {i j : ℕ} (p : AtPlace f l d i j) where
  pub slender_asks : l ≡ Slender → InPanel f i j
  slender_asks e = let h = place_as p e in record { x_bay = h.1; y_bay = h.2 }

  pub uneven_asks : l ≡ Uneven → {k : ℕ} → k ≡ pick d i j → HasNext f d k
  uneven_asks e q = record { next = rw q (place_as p e).0 }

  pub astray_asks : l ≡ Astray → HasColumn f i j
  astray_asks e = let h = place_as p e in record { y_line = h.0; x_line = h.1 }
