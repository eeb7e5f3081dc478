-- What limits 4, 8 and 64 need at a place of an accepted floor.
--     neighbours, uneven_is      two neighbouring spans, and all of a direction
--     adjoining_of               the spans that adjoin every column along a direction
--     two_spans, next_is         one span and the next
--     column_is, column_few      a column off its place
--     column_end, along_is       one column alone, along one direction
--     thin_is                    too thin is not thick enough
--     row_thick, all_thick, one_thin     rows of panels thick enough, and the first panel that is not
-- Assumes nothing.
use Prim.Native.Nat.{ℕ, ◌+◌, ◌-◌, ◌*◌, ◌≤◌, ◌<◌, min}
use mathlib.Core.Bool.{Bool, true, false, not, ◌||◌}
use mathlib.Core.List.{List}
use mathlib.Core.Path.{◌≡◌, refl, sym, ap, ◌∙◌}
use native.Mathlib.Omega.{arith}
use lib.Dec.{ltb, leb}
use lib.ListN.{get_or}
use Rattle.numbers.specs.Tests.{some}
use Rattle.numbers.proofs.Tests.{found, until_same, says_lt, says_le, says_not, says_as, says_one}
use Rattle.plan.specs.declared.ways.Way.{Way}
use Rattle.plan.specs.declared.ways.Way.TheVariants.{X, Y}
use Rattle.plan.specs.declared.read.Bays.{Bays}
use Rattle.plan.specs.Ways.{pick}
use Rattle.plan.specs.Plan.{bays, thickness, span, offset}
use Rattle.plan.proofs.Reading.{bays_most}
use Rattle.floor.proofs.Fair.{fair}
use Rattle.lines.specs.declared.slab.Slab.{Slab}
use Rattle.lines.specs.Lines.{panel_thickness}
use Rattle.floor.specs.Refusal.{refusal}
use Rattle.lines.specs.Rows.{Spans}
use Rattle.lines.specs.Slabs.{slab_of}
use Rattle.lines.proofs.Slabs.{bays_of_lem}
use Rattle.lines.proofs.Filled.{Filled}
use Rattle.limits.specs.Asked.{Neighbours}
use Rattle.limits.specs.Limits.{some_pair, some_panel, unlike, unlike_next, uneven, lesser_at, adjoining, astray_along, astray_column, thin_panel}
use Rattle.places.specs.Adjoining.{Adjoining}
use Rattle.places.specs.Asked.{SpansAlong, HasNext, HasColumn, EndOf, AtColumn}

-- ---- the spans along a direction

-- spans k and k + 1 of those at hand are unlike
abbrev pub unlike_at : List ℕ → ℕ → Bool
unlike_at s k = unlike (get_or s k 0) (get_or s (k + 1) 0)

module _ {f : List ℕ} {d : Way} {s : List ℕ} {n : ℕ} (p : SpansAlong f d s n) where
  pub bays_in : (1 ≤ n) × (n ≤ 12)
  bays_in = let b = (fair f p.accepted).bays_in d in (omega (arith, p.number, b), omega (arith, p.number, b))

  span_at : {k : ℕ} → k < 13 → (get_or s k 0 ≡ span f d k) × (get_or s k 0 ≤ 12000)
  span_at {k} h = rw (p.spans.is k h) (refl, (fair f p.accepted).span_most d k)

  pub neighbours : {k : ℕ} → k < n - 1 → Neighbours (get_or s k 0) (get_or s (k + 1) 0)
  neighbours {k} h =
      record { one = (span_at {k = k} (omega (arith, h, bays_in))).1; other = (span_at {k = k + 1} (omega (arith, h, bays_in))).1 }

  -- the same tests, of the spans at hand
  pub uneven_is : uneven f d ≡ some (n - 1) (unlike_at s)
  unfolding uneven
  uneven_is =
      rw (← p.number) (until_same true (n - 1) _ _ (λ k h. sym (rw ((span_at {k = k} (omega (arith, h, bays_in))).0, (span_at {k = k + 1} (omega (arith, h, bays_in))).0))))

  pub end_of : {k : ℕ} → k ≤ n → EndOf n k
  end_of h = record { some = omega (arith, bays_in); few = bays_in.1; place = h }

  -- the spans that adjoin a column are at hand
  pub lesser_at_lem : (k : ℕ) → k ≤ n → lesser_at n (λ i. get_or s i 0) k ≡ adjoining f d k
  unfolding adjoining
  lesser_at_lem k l =
      rw (← p.number, (span_at {k = k - 1} (omega (arith, l, bays_in))).0, (span_at {k = min k (n - 1)} (omega (arith, l, bays_in))).0)

  pub adjoining_of : {a : List ℕ} → Filled (lesser_at n (λ i. get_or s i 0)) 0 (n + 1) a → Adjoining f d a
  adjoining_of h =
      record { is = λ k q. let l : k ≤ n = omega (arith, p.number, q) in h k (omega arith) (omega (arith, l)) ∙ lesser_at_lem k l }

-- ---- one place alone

module _ {f : List ℕ} {d : Way} {s : List ℕ} {k : ℕ} (e : refusal f ≡ 0) (spans : Spans f d s) (p : HasNext f d k) where
  pub two_spans : Neighbours (get_or s k 0) (get_or s (k + 1) 0)
  two_spans = neighbours (record { accepted = e; spans = spans; number = refl }) {k = k} (omega (arith, p.next))

  pub next_is : {b : Bool} → b ≡ unlike (get_or s k 0) (get_or s (k + 1) 0) → b ≡ unlike_next f d k
  next_is q =
      q ∙ rw (spans.is k (omega (arith, p.next, bays_most f d)), spans.is (k + 1) (omega (arith, p.next, bays_most f d)))

-- the column is k-th along d
way_line : (d : Way) {x y i j : ℕ} → i ≤ x → j ≤ y → pick d i j ≤ pick d x y
way_line X hi hj = hi
way_line Y hi hj = hj

-- ---- a column

pub column_is : {f : List ℕ} {b : Bays} {x y : List ℕ} {i j u v : ℕ} {p q r : Bool} → AtColumn f b x y i j
    → u ≡ offset f X i j → p ≡ ltb (get_or x i 0) (10 * u) → v ≡ offset f Y i j → q ≡ ltb (get_or y j 0) (10 * v) → r ≡ (p || q) → r ≡ astray_column f i j
unfolding astray_column
column_is {i = i} {j} at eu ep ev eq er =
    let c = at.row.columns in
    cc (c.along_x.is i (omega (arith, at.y_line, c.sized.x)), c.along_y.is j (omega (arith, at.row.x_line, c.sized.y)))

-- one column alone: the spans that adjoin it along d
module _ {f : List ℕ} {slab : Slab} {i j : ℕ} (e : refusal f ≡ 0) (shared : slab ≡ slab_of f) (p : HasColumn f i j) (d : Way) {s : List ℕ} (spans : Spans f d s) where
  along : SpansAlong f d s (pick d slab.bays.x slab.bays.y)
  along = record { accepted = e; spans = spans; number = (bays_of_lem f shared d).0 }

  line_in : pick d i j ≤ pick d slab.bays.x slab.bays.y
  line_in =
      let b = bays_of_lem f shared in way_line d (omega (arith, (b X).0, p.y_line)) (omega (arith, (b Y).0, p.x_line))

  pub column_end : {n k : ℕ} → n ≡ pick d slab.bays.x slab.bays.y → k ≡ pick d i j → EndOf n k
  column_end en ek = rw (en, ek) (end_of along line_in)

  pub along_is : {n k u v : ℕ} {b : Bool} → n ≡ pick d slab.bays.x slab.bays.y → k ≡ pick d i j
      → v ≡ lesser_at n (λ m. get_or s m 0) k → u ≡ offset f d i j → b ≡ ltb v (10 * u) → b ≡ astray_along f d i j
  along_is en ek ev eu eb =
      eb ∙ rw (ev, eu, en, ek) (ap (λ (m : ℕ). ltb m (10 * offset f d i j)) (lesser_at_lem along (pick d i j) line_in))

pub column_few : {f : List ℕ} {b : Bays} {x y : List ℕ} {i j : ℕ} → AtColumn f b x y i j → (i ≤ 12) × (j ≤ 12)
column_few at =
    let c = at.row.columns in (omega (arith, at.y_line, c.sized.x_most), omega (arith, at.row.x_line, c.sized.y_most))

-- ---- a panel

-- too thin is not thick enough
pub thin_is : (f : List ℕ) (i j : ℕ) {r b : Bool} → r ≡ leb (panel_thickness f i j) (thickness f) → not r ≡ b → thin_panel f i j ≡ b
unfolding thin_panel
thin_is f i j e q =
    says_one (says_lt (thickness f) (panel_thickness f i j))
    (says_as (λ h. omega (arith, h)) (λ h l. omega (arith, h, l)) (says_not (says_le (panel_thickness f i j) (thickness f))))
    ∙ rw (← e) q

-- a row of panels, of which some is too thin or none is
abbrev pub thin_row : List ℕ → ℕ → Bool
thin_row f j = some (bays f X) (λ i. thin_panel f i j)

module _ (f : List ℕ) {slab : Slab} (shared : slab ≡ slab_of f) where
  pub row_thick : (j : ℕ) {i : ℕ} → i ≡ slab.bays.x → some i (λ k. thin_panel f k j) ≡ false → thin_row f j ≡ false
  row_thick j q e = rw (← (bays_of_lem f shared X).0, ← q) e

  -- every row was passed, or the walk was left at a panel
  pub all_thick : {j : ℕ} → j ≡ slab.bays.y → some j (thin_row f) ≡ false → some_panel f (thin_panel f) ≡ false
  unfolding some_pair
  all_thick q e = rw (← (bays_of_lem f shared Y).0, ← q) e

  pub one_thin : {i j : ℕ} → i < slab.bays.x → j < slab.bays.y → thin_panel f i j ≡ true → some_panel f (thin_panel f) ≡ true
  unfolding some_pair
  one_thin {i} {j} hi hj e =
      let row : thin_row f j ≡ true = rw (← (bays_of_lem f shared X).0) (found true slab.bays.x i (λ k. thin_panel f k j) hi e) in
      rw (← (bays_of_lem f shared Y).0) (found true slab.bays.y j (thin_row f) hj row)
