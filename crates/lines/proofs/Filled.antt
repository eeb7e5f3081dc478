-- What is read of a floor's lines and panels once for all of them.
--     Filled, one_more             numbers of an array, one after another
--     untouched, same_else         and what was there elsewhere
--     filled                       α of lines that stand one after another
--     both_spans, both_alphas      a row for each direction
--     all_rows, panel_rows, joined    rows filled with α of all lines, of a panel's lines, and on from those of the first panel
--     one_row                      no second row of α
--     one_spans, one_alphas, one_panel_alphas    no second array of both rows
--     pair_in, pair_is             the two beside a bay, and their sum
--     beside, stiff_at, at_panel   α of all lines has that of two, and of a panel's four
--     clearing_x, clearing_y       a panel's two clear spans
--     weak_is                      that a panel has a weak edge is asked of an outer one alone
--     view_is                      what is put together of all that is a panel's view
--     asked, least_is, enough_is   which is in the rules' range, and of which its least thickness, and whether t is enough, are worked out
--     thick_in                     t is in range too
-- Assumes nothing.
use Prim.Native.Nat.{ℕ, ◌+◌, ◌-◌, ◌≤◌, ◌<◌, min, max, zero-le}
use native.Mathlib.Nat.{not-suc-le-zero}
use mathlib.Core.Bool.{Bool, true, false, ◌&&◌, ◌||◌}
use mathlib.Core.List.{List, [], ◌∷◌}
use mathlib.Core.Logic.{◌⊎◌, inl, inr}
use mathlib.Core.Path.{◌≡◌, refl, sym, ◌∙◌}
use native.Mathlib.Decide.{dec_lt}
use native.Mathlib.Omega.{arith}
use lib.Dec.{leb, ltb}
use lib.ListN.{get_or, length, set, replicate, get_or-replicate}
use lib.Seq.{get_or-set_same, get_or-set_other, ext_get_or}
use Rattle.plan.specs.declared.ways.Way.{Way}
use Rattle.plan.specs.declared.ways.Way.TheVariants.{X, Y}
use Rattle.plan.specs.Ways.{across}
use Rattle.plan.specs.Plan.{bays, thickness, grade, column, last_line}
use Rattle.layouts.specs.Layouts.{layout_of, outer_line}
use Rattle.floor.specs.Refusal.{refusal}
use Rattle.floor.specs.Fair.{Fair}
use Rattle.floor.proofs.Fair.{fair}
use Rattle.thickness.specs.declared.Panel.{Panel}
use Rattle.thickness.specs.declared.PanelPlace.{PanelPlace}
use Rattle.thickness.specs.Asked.{PanelSizes, SlabMost}
use Rattle.thickness.specs.LeastThickness.{least_thickness}
use Rattle.lines.specs.declared.slab.Slab.{Slab}
use Rattle.lines.specs.Lines.{outer, line_alpha, pair_alpha, clear_span, outer_panel, weak_edge, place_of, panel_place, is_everywhere, panel_view, panel_thickness}
use Rattle.lines.specs.Slabs.{slab_of}
use Rattle.lines.specs.Rows.{Alphas, SameElse, ZeroElse, Spans, AllSpans, AllAlphas, AlphaRows, PanelAlphaRows, TwoRows, row_of, pair_at, weak_at}
use Rattle.lines.specs.Asked.{TwoAlphas, Clearing, Ready, AtPanel, InPanel, StiffPanel}
use Rattle.lines.proofs.Floors.{alpha_bound, panel_in}

-- the numbers of a from `from` on and below n are those of v
abbrev pub Filled : (ℕ → ℕ) → ℕ → ℕ → List ℕ → Type 0
Filled v from n a = (k : ℕ) → from ≤ k → k < n → get_or a k 0 ≡ v k

pub one_more : (v : ℕ → ℕ) (from n : ℕ) (a : List ℕ) {x : ℕ} → Filled v from n a → n < length a → x ≡ v n → Filled v from (n + 1) (set a n x)
one_more v from n a {x} h r e k p q =
    elim (dec_lt k n) [
      | yes w ↦ rw (get_or-set_other a n k x 0 (omega arith)) (h k p w)
      | no w ↦ let s : k ≡ n = omega arith in rw (s, get_or-set_same a n x 0 r) e
    ]

-- the other places keep what they have in b
abbrev pub Untouched : ℕ → ℕ → List ℕ → List ℕ → Type 0
Untouched from n b a = (k : ℕ) → k < 13 → (k < from) ⊎ (n ≤ k) → get_or a k 0 ≡ get_or b k 0

pub untouched : (from n : ℕ) (b a : List ℕ) (x : ℕ) → from ≤ n → Untouched from n b a → Untouched from (n + 1) b (set a n x)
untouched from n b a x h u k q (inl o) = rw (get_or-set_other a n k x 0 (omega arith)) (u k q (inl o))
untouched from n b a x h u k q (inr o) = rw (get_or-set_other a n k x 0 (omega arith)) (u k q (inr (omega arith)))

pub same_else : (from to n : ℕ) (b a : List ℕ) → (n ≤ to + 1) ⊎ (n ≤ from) → Untouched from n b a → SameElse from to b a
same_else from to n b a w u k q (inl o) = u k q (inl o)
same_else from to n b a (inl h) u k q (inr o) = u k q (inr (omega arith))
same_else from to n b a (inr h) u k q (inr o) =
    elim (dec_lt k from) [
      | yes l ↦ u k q (inl l)
      | no l ↦ u k q (inr (omega arith))
    ]

pub filled : {f : List ℕ} {d : Way} {from to : ℕ} {a : List ℕ} → refusal f ≡ 0 → to ≤ last_line f d → Filled (line_alpha f d) from (to + 1) a → Alphas f d from to a
filled {f} {d} e last h =
    record {
      is = λ l p q. h l p (omega arith);
      most = λ l p q. rw (h l p (omega arith)) (alpha_bound f d l (record { accepted = e; line = omega arith }));
    }

module _ {f : List ℕ} {d : Way} {a : List ℕ} {k : ℕ} (known : Alphas f d k (k + 1) a) where
  pub pair_in : refusal f ≡ 0 → k < last_line f d → TwoAlphas a k
  pair_in e h =
      record {
        index = omega (arith, (fair f e).bays_in (across d));
        low = known.most k (omega arith) (omega arith);
        high = known.most (k + 1) (omega arith) (omega arith);
      }

  pub pair_is : pair_at a k ≡ pair_alpha f d k
  unfolding pair_alpha
  pair_is = rw (known.is k (omega arith) (omega arith), known.is (k + 1) (omega arith) (omega arith))

-- α of all lines has that of two
pub beside : {f : List ℕ} {d : Way} {a : List ℕ} {k : ℕ} → Alphas f d 0 (last_line f d) a → k < last_line f d → Alphas f d k (k + 1) a
beside known h = record { is = λ l p q. known.is l (omega arith) (omega arith); most = λ l p q. known.most l (omega arith) (omega arith) }

pub stiff_at : {f : List ℕ} {a : List (List ℕ)} {i j : ℕ} → AllAlphas f a → i < bays f X → j < bays f Y → StiffPanel f a i j
stiff_at p hi hj =
    record { panel = record { x_bay = hi; y_bay = hj }; alphas = record { x = beside (p X) hj; y = beside (p Y) hi } }

pub at_panel : {f : List ℕ} {slab : Slab} {s a : List (List ℕ)} {i j : ℕ} → Ready f slab s a → i < bays f X → j < bays f Y → AtPanel f slab s a i j
at_panel p hi hj =
    record { panel = record { surveyed = p.surveyed; x_bay = hi; y_bay = hj }; alphas = (stiff_at p.alphas hi hj).alphas }

-- a row for each direction
pub both_spans : {f x y : List ℕ} → Spans f X x → Spans f Y y → AllSpans f (x ∷ y ∷ [])
both_spans p q X = p
both_spans p q Y = q

pub both_alphas : {f x y : List ℕ} {m n : ℕ} → m ≡ last_line f X → n ≡ last_line f Y → Alphas f X 0 m x × ZeroElse 0 m x → Alphas f Y 0 n y × ZeroElse 0 n y
    → AlphaRows f (x ∷ y ∷ [])
both_alphas {f} {x} {y} e g p q = record { known = known; rest = rest }
  where
    known : AllAlphas f (x ∷ y ∷ [])
    known X = rw (← e) p.0
    known Y = rw (← g) q.0

    rest : (d : Way) → ZeroElse 0 (last_line f d) (row_of (x ∷ y ∷ []) d)
    rest X = rw (← e) p.1
    rest Y = rw (← g) q.1

from_zeros : (from to : ℕ) (a : List ℕ) → SameElse from to (replicate 13 0) a → ZeroElse from to a
from_zeros from to a h k q o = h k q o ∙ get_or-replicate 13 k 0 0 q

pub all_rows : {f x y : List ℕ} {m n : ℕ} → m ≡ last_line f X → n ≡ last_line f Y → Alphas f X 0 m x × SameElse 0 m (replicate 13 0) x × (length x ≡ 13)
    → Alphas f Y 0 n y × SameElse 0 n (replicate 13 0) y × (length y ≡ 13) → AlphaRows f (x ∷ y ∷ [])
all_rows {x = x} {y} e g p q = both_alphas e g (p.0, from_zeros _ _ x p.1) (q.0, from_zeros _ _ y q.1)

pub panel_rows : {f x y : List ℕ} {i j : ℕ} → Alphas f X j (j + 1) x × SameElse j (j + 1) (replicate 13 0) x × (length x ≡ 13)
    → Alphas f Y i (i + 1) y × SameElse i (i + 1) (replicate 13 0) y × (length y ≡ 13) → PanelAlphaRows f i j (x ∷ y ∷ [])
panel_rows {f} {x} {y} p q =
    record {
      rows = record { two = refl; thirteen = long };
      known = record { x = p.0; y = q.0 };
      rest_x = from_zeros _ _ x p.1;
      rest_y = from_zeros _ _ y q.1;
    }
  where
    long : (d : Way) → length (row_of (x ∷ y ∷ []) d) ≡ 13
    long X = p.2
    long Y = q.2

-- α of the first two lines, and of the others beside them
pub joined : {f : List ℕ} {d : Way} {n : ℕ} {a b : List ℕ} → 1 ≤ n → Alphas f d 0 (0 + 1) a → ZeroElse 0 (0 + 1) a → Alphas f d 2 n b → SameElse 2 n a b
    → Alphas f d 0 n b × ZeroElse 0 n b
joined {f} {d} {n} {a} {b} some near rest far same =
    (record { is = is; most = most }, λ k q o. same k q (inr (past k o)) ∙ rest k q (inr (omega (arith, past k o, some))))
  where
    past : (k : ℕ) → (k < 0) ⊎ (n < k) → n < k
    past k (inl o) = absurd (not-suc-le-zero o)
    past k (inr o) = o

    is : (l : ℕ) → 0 ≤ l → l ≤ n → get_or b l 0 ≡ line_alpha f d l
    is l p q =
        elim (dec_lt l 2) [
          | yes h ↦ same l (omega (arith, h)) (inl h) ∙ near.is l zero-le (omega (arith, h))
          | no h ↦ far.is l (omega (arith, h)) q
        ]

    most : (l : ℕ) → 0 ≤ l → l ≤ n → get_or b l 0 ≤ 200000000
    most l p q =
        elim (dec_lt l 2) [
          | yes h ↦ rw (same l (omega (arith, h)) (inl h)) (near.most l zero-le (omega (arith, h)))
          | no h ↦ far.most l (omega (arith, h)) q
        ]

-- there is one row of α of these lines and nothing else
pub one_row : {f : List ℕ} {d : Way} {from to : ℕ} {a b : List ℕ} → length a ≡ 13 → length b ≡ 13 → Alphas f d from to a × ZeroElse from to a
    → Alphas f d from to b × ZeroElse from to b → a ≡ b
one_row {f} {d} {from} {to} {a} {b} la lb p q =
    ext_get_or 0 a b (la ∙ sym lb) (λ k h.
    elim (dec_lt k from) [
      | yes l ↦ p.1 k (omega (arith, h, la)) (inl l) ∙ sym (q.1 k (omega (arith, h, la)) (inl l))
      | no l ↦
          elim (dec_lt to k) [
            | yes m ↦ p.1 k (omega (arith, h, la)) (inr m) ∙ sym (q.1 k (omega (arith, h, la)) (inr m))
            | no m ↦ p.0.is k (omega (arith, l)) (omega (arith, m)) ∙ sym (q.0.is k (omega (arith, l)) (omega (arith, m)))
          ]
    ])

-- two arrays whose rows are the same are one
same_rows : {a b : List (List ℕ)} → TwoRows a → TwoRows b → ((d : Way) → row_of a d ≡ row_of b d) → a ≡ b
same_rows {a} {b} p q same =
    ext_get_or [] a b (p.two ∙ sym q.two) (λ k h.
    elim (dec_lt k 1) [
      | yes l ↦ let e : k ≡ 0 = omega arith in rw e (same X)
      | no l ↦ let e : k ≡ 1 = omega (arith, h, p.two, l) in rw e (same Y)
    ])

module _ {f : List ℕ} {a b : List (List ℕ)} (p : TwoRows a) (q : TwoRows b) where
  pub one_spans : AllSpans f a → AllSpans f b → a ≡ b
  one_spans v w =
      same_rows p q (λ d.
      ext_get_or 0 (row_of a d) (row_of b d) (p.thirteen d ∙ sym (q.thirteen d)) (λ k h.
      (v d).is k (omega (arith, h, p.thirteen d)) ∙ sym ((w d).is k (omega (arith, h, p.thirteen d)))))

  pub one_alphas : AlphaRows f a → AlphaRows f b → a ≡ b
  one_alphas v w = same_rows p q (λ d. one_row (p.thirteen d) (q.thirteen d) (v.known d, v.rest d) (w.known d, w.rest d))

  pub one_panel_alphas : {i j : ℕ} → PanelAlphaRows f i j a → PanelAlphaRows f i j b → a ≡ b
  one_panel_alphas {i} {j} v w = same_rows p q same
    where
      same : (d : Way) → row_of a d ≡ row_of b d
      same X = one_row (p.thirteen X) (q.thirteen X) (v.known.x, v.rest_x) (w.known.x, w.rest_x)
      same Y = one_row (p.thirteen Y) (q.thirteen Y) (v.known.y, v.rest_y) (w.known.y, w.rest_y)

-- four tests, each of which another holds back: where all of those fail, so do they
outer_alone : (o p q r v w x y : Bool)
    → (((o || p) || (q || r)) && (((o && v) || (p && w)) || ((q && x) || (r && y)))) ≡ (((o && v) || (p && w)) || ((q && x) || (r && y)))
outer_alone true p q r v w x y = refl
outer_alone false true q r v w x y = refl
outer_alone false false true r v w x y = refl
outer_alone false false false true v w x y = refl
outer_alone false false false false v w x y = refl

module _ (f : List ℕ) {slab : Slab} {a : List (List ℕ)} (i j : ℕ) (accepted : refusal f ≡ 0) (same : slab ≡ slab_of f) (p : StiffPanel f a i j) where
  abbrev at : InPanel f i j
  at = p.panel

  numbers : Fair f
  numbers = fair f accepted

  pub clearing_x : {s : List ℕ} → Spans f X s → Clearing s slab.cx i
  unfolding slab_of
  clearing_x spans =
      record {
        index = omega (arith, numbers.bays_in X, at.x_bay);
        shorter = rw (same, spans.is i (omega (arith, numbers.bays_in X, at.x_bay))) (omega (arith, numbers.clear X i at.x_bay));
      }

  pub clearing_y : {s : List ℕ} → Spans f Y s → Clearing s slab.cy j
  unfolding slab_of
  clearing_y spans =
      record {
        index = omega (arith, numbers.bays_in Y, at.y_bay);
        shorter = rw (same, spans.is j (omega (arith, numbers.bays_in Y, at.y_bay))) (omega (arith, numbers.clear Y j at.y_bay));
      }

  shared : (slab.bays.x ≡ bays f X) × (slab.bays.y ≡ bays f Y) × (slab.layout ≡ layout_of f) × (slab.fy ≡ grade f) × (slab.cx ≡ column f X) × (slab.cy ≡ column f Y)
  unfolding slab_of
  shared = rw same (refl, refl, refl, refl, refl, refl)

  -- an outer panel, and one that has a weak edge, as nx, ny and the α at hand tell it
  module _ {outside weak : Bool}
      (eo : outside ≡ ((outer_line slab.bays.y j || outer_line slab.bays.y (j + 1)) || (outer_line slab.bays.x i || outer_line slab.bays.x (i + 1))))
      (ew : weak ≡ (outside && (weak_at slab.bays.y (row_of a X) j || weak_at slab.bays.x (row_of a Y) i))) where
    abbrev below8000 : Way → ℕ → Bool
    below8000 d l = ltb (line_alpha f d l) 8000

    weak_is : weak ≡ weak_edge f i j
    unfolding weak_edge
    weak_is =
        let x = p.alphas.x in
        let y = p.alphas.y in
        rw (
          ew,
          eo,
          shared.0,
          shared.1,
          x.is j (omega arith) (omega arith),
          x.is (j + 1) (omega arith) (omega arith),
          y.is i (omega arith) (omega arith),
          y.is (i + 1) (omega arith) (omega arith),
        )
        (outer_alone (outer f X j) (outer f X (j + 1)) (outer f Y i) (outer f Y (i + 1)) (below8000 X j) (below8000 X (j + 1)) (below8000 Y i) (below8000 Y (i + 1)))

    pub view_is : {sx sy : List ℕ} {everywhere : Bool} {place : PanelPlace} {fy x y sn ln v w : ℕ} → Spans f X sx → Spans f Y sy
        → x ≡ get_or sx i 0 - slab.cx → y ≡ get_or sy j 0 - slab.cy → v ≡ pair_at (row_of a X) j → w ≡ pair_at (row_of a Y) i
        → everywhere ≡ is_everywhere slab.layout → place ≡ place_of outside weak → fy ≡ slab.fy → sn ≡ min x y → ln ≡ max x y
        → ◌≡◌ {A = Panel} (record { everywhere = everywhere; place = place; fy = fy; sn = sn; ln = ln; s = v + w; weak = weak }) (panel_view f i j)
    unfolding panel_view panel_place outer_panel clear_span
    view_is px py ex ey ea eb ev ep ef es el =
        cc (
          shared.0,
          shared.1,
          shared.2,
          shared.3,
          shared.4,
          shared.5,
          px.is i (clearing_x px).index,
          py.is j (clearing_y py).index,
          pair_is p.alphas.x,
          pair_is p.alphas.y,
          weak_is,
        )

  module _ {view : Panel} (is : view ≡ panel_view f i j) where
    pub asked : PanelSizes view.fy view.sn view.ln
    asked = rw is (panel_in f i j accepted at.x_bay at.y_bay)

    pub least_is : {r : ℕ} → r ≡ least_thickness view → r ≡ panel_thickness f i j
    unfolding panel_thickness
    least_is e = cc (is)

    pub enough_is : {b : Bool} → b ≡ leb (least_thickness view) slab.t → b ≡ leb (panel_thickness f i j) (thickness f)
    unfolding slab_of panel_thickness
    enough_is e = cc (is, same)

  pub thick_in : SlabMost slab.t
  unfolding slab_of
  thick_in = rw same (record { most = numbers.thickness_in.1 })
