-- Limits 2 and 32 over all panels, by the extremes of the two directions (numbers' apart_extremes).
--     ends_in, apart_is         a bound of the extremes, and that they decide
--     first_in, first_apart     the first values of a row, as a slice
--     spans_in, shares_in       the spans of a direction, and p or q, in range
--     bay_of, share_is          a bay in range, and its p or q, as it is worked out
--     slender_is, unequal_is    some pair of values apart is some panel that breaks the limit
--     beamed, beamless          limit 32, by cases of the layout
--     unequal_one, bare_one     and of one panel
--     values_at, slender_one    one panel: its spans in range, and limit 2
-- Assumes nothing.
use Prim.Native.Nat.{ℕ, ◌+◌, ◌*◌, ◌≤◌, ◌<◌}
use mathlib.Core.Bool.{Bool, true, false, ◌||◌}
use mathlib.Core.List.{List}
use mathlib.Core.Path.{◌≡◌, refl, sym, ◌∙◌}
use native.Mathlib.Omega.{arith}
use lib.Dec.{ltb}
use lib.ListN.{get_or, length, take}
use Rattle.std.proofs.lemmas.List.{get_or-take}
use Rattle.numbers.specs.Extremes.{apart}
use Rattle.numbers.proofs.Bounded.{◌⊗◌}
use Rattle.numbers.proofs.Extremes.{apart_ends, apart_extremes, least_within_lem}
use Rattle.numbers.proofs.Tests.{until_same}
use Rattle.plan.specs.declared.ways.Way.{Way}
use Rattle.plan.specs.declared.ways.Way.TheVariants.{X, Y}
use Rattle.plan.specs.Ways.{across}
use Rattle.plan.specs.Plan.{bays, span, last_line}
use Rattle.floor.specs.Refusal.{refusal}
use Rattle.floor.proofs.Fair.{fair}
use Rattle.lines.specs.declared.slab.Slab.{Slab}
use Rattle.lines.specs.Lines.{pair_alpha, is_everywhere}
use Rattle.lines.specs.Slabs.{slab_of}
use Rattle.lines.specs.Rows.{Spans, Alphas}
use Rattle.lines.specs.Asked.{InPanel}
use Rattle.lines.proofs.Slabs.{laid_of}
use Rattle.lines.proofs.Filled.{pair_in, pair_is}
use Rattle.lines.proofs.Floors.{alpha_bound}
use Rattle.limits.specs.Limits.{some_pair, some_panel, slender_panel, unequal_panel, unbalanced_panel, unbalanced}
use Rattle.extremes.specs.declared.Ends.{Ends}
use Rattle.extremes.specs.Extremes.{apart_some, ends_of, ends_apart, share_at, share_of, Shares}
use Rattle.extremes.specs.Asked.{Values, Value, EndsIn, BaySharing}

-- the same pairs, with tests that answer the same
pair_same : (n m : ℕ) (p q : ℕ → ℕ → Bool) → ((i j : ℕ) → i < n → j < m → p i j ≡ q i j) → some_pair n m p ≡ some_pair n m q
unfolding some_pair
pair_same n m p q h = until_same true m _ _ (λ j l. until_same true n _ _ (λ i k. h i j k l))

or_swap : (a b : Bool) → (a || b) ≡ (b || a)
or_swap true true = refl
or_swap true false = refl
or_swap false true = refl
or_swap false false = refl

-- ---- of any two lists

module _ {a : List ℕ} {n : ℕ} (known : Values a n) where
  pub ends_in : {e : Ends} → e ≡ ends_of n (λ j. get_or a j 0) → EndsIn e
  unfolding ends_of
  ends_in q = record { least = rw q (least_within_lem n _ _ known.some known.most) }

-- the first n values of a row, as a slice
pub first_in : {a r : List ℕ} {n : ℕ} → Values a n → (r ≡ take n a) × (length r ≡ n) → Values r (length r)
first_in {a} {n = n} known is =
    rw (is.1) (record { some = known.some; few = known.few; most = λ i h. rw (is.0, get_or-take n a i 0 h) (known.most i h) })

pub first_apart : (k : ℕ) (a b : List ℕ) {r t : List ℕ} {n m : ℕ} {q : Bool} → (r ≡ take n a) × (length r ≡ n) → (t ≡ take m b) × (length t ≡ m)
    → q ≡ apart_some k r (length r) t (length t) → q ≡ apart_some k a n b m
unfolding apart_some
first_apart k a b {n = n} {m = m} p q e =
    e ∙ rw (p.1, q.1) (pair_same n m _ _ (λ i j h l. rw (p.0, q.0, get_or-take n a i 0 h, get_or-take m b j 0 l)))

pub apart_is : (k : ℕ) {a b : List ℕ} {n m : ℕ} {x y : Ends} {r : Bool} → Values a n → Values b m
    → x ≡ ends_of n (λ i. get_or a i 0) → y ≡ ends_of m (λ i. get_or b i 0)
    → r ≡ ends_apart k x y → r ≡ apart_some k a n b m
unfolding apart_some some_pair ends_of
apart_is k {a} {b} {n} {m} p q ex ey e =
    rw (ex, ey) at e ∙ sym (apart_extremes k n m (λ i. get_or a i 0) (λ j. get_or b j 0) p.some q.some)

-- ---- of a floor

module _ (f : List ℕ) (e : refusal f ≡ 0) where
  pub spans_in : (d : Way) {s : List ℕ} {n : ℕ} → Spans f d s → n ≡ bays f d → Values s n
  spans_in d known q =
      let b = (fair f e).bays_in d in
      record {
        some = omega (arith, b);
        few = omega (arith, b);
        most = λ i h. rw (known.is i (omega (arith, b))) (omega (arith, (fair f e).span_most d i));
      }

  pair_most : (d : Way) (k : ℕ) → k < last_line f d → pair_alpha f d k ≤ 400000000
  unfolding pair_alpha
  pair_most d k h =
      omega (
        arith,
        alpha_bound f d k (record { accepted = e; line = omega (arith, h) }),
        alpha_bound f d (k + 1) (record { accepted = e; line = omega (arith, h) }),
      )

  share_most : (d : Way) (k : ℕ) → k < last_line f d → share_of f d k ≤ 57600000000000000
  unfolding share_of
  share_most d k h = pair_most d k h ⊗ ((fair f e).span_most (across d) k ⊗ (fair f e).span_most (across d) k)

  pub shares_in : (d : Way) {p : List ℕ} {n : ℕ} → Shares f d p → n ≡ last_line f d → Values p n
  shares_in d known q =
      let b = (fair f e).bays_in (across d) in
      record {
        some = omega (arith, b);
        few = omega (arith, b);
        most = λ k h. rw (known.is k (omega (arith, h))) (share_most d k (omega (arith, h)));
      }

-- bay k across the lines along d, with α of the two beside it
module _ {f : List ℕ} {d : Way} {a s : List ℕ} {k : ℕ} (e : refusal f ≡ 0) (known : Alphas f d k (k + 1) a) (spans : Spans f (across d) s) (h : k < last_line f d) where
  bay_span : get_or s k 0 ≡ span f (across d) k
  bay_span = spans.is k (omega (arith, h, (fair f e).bays_in (across d)))

  pub bay_of : BaySharing a s k
  bay_of = record { pair = pair_in known e h; span_most = rw bay_span ((fair f e).span_most (across d) k) }

  pub share_is : {x : ℕ} → x ≡ share_at a s k → x ≡ share_of f d k
  unfolding share_of
  share_is q = cc (q, bay_span, pair_is known)

-- ---- of all panels

module _ (f : List ℕ) {slab : Slab} (e : refusal f ≡ 0) (shared : slab ≡ slab_of f) where
  pub slender_is : {x y : List ℕ} {r : Bool} → Spans f X x → Spans f Y y → r ≡ apart_some 2 x slab.bays.x y slab.bays.y → r ≡ some_panel f (slender_panel f)
  unfolding slab_of apart_some slender_panel
  slender_is sx sy q =
      q ∙ rw shared (pair_same (bays f X) (bays f Y) _ _ (λ i j hi hj. rw (
        sx.is i (omega (arith, hi, (fair f e).bays_in X)),
        sy.is j (omega (arith, hj, (fair f e).bays_in Y)),
      ) (sym (apart_ends 2 (span f X i) (span f Y j) (omega arith)))))

  unequal_is : {p q : List ℕ} {r : Bool} → Shares f X p → Shares f Y q → r ≡ apart_some 5 q slab.bays.x p slab.bays.y → r ≡ some_panel f (unequal_panel f)
  unfolding slab_of apart_some unequal_panel share_of
  unequal_is sp sq g =
      g ∙ rw shared (pair_same (bays f X) (bays f Y) _ _ (λ i j hi hj.
      let p = pair_alpha f X j * (span f Y j * span f Y j) in
      let q = pair_alpha f Y i * (span f X i * span f X i) in
      rw (sq.is i hi, sp.is j hj) (or_swap (ltb (5 * p) q) (ltb (5 * q) p))))

  module _ {everywhere : Bool} (is : everywhere ≡ is_everywhere slab.layout) where
    pub beamed : {p q : List ℕ} {r : Bool} → everywhere ≡ true → Shares f X p → Shares f Y q → r ≡ apart_some 5 q slab.bays.x p slab.bays.y
        → r ≡ unbalanced f
    unfolding unbalanced
    beamed t sp sq g = rw (← laid_of f shared, ← is, t) (unequal_is sp sq g)

    pub beamless : everywhere ≡ false → everywhere ≡ unbalanced f
    unfolding unbalanced
    beamless t = rw (← laid_of f shared, ← is, t)

    -- of one panel
    pub unequal_one : (i j : ℕ) {p q : ℕ} {r : Bool} → everywhere ≡ true → p ≡ share_of f X j → q ≡ share_of f Y i → r ≡ apart 5 q p → r ≡ unbalanced_panel f i j
    unfolding unequal_panel share_of
    unequal_one i j t ep eq er =
        let x = pair_alpha f X j * (span f Y j * span f Y j) in
        let y = pair_alpha f Y i * (span f X i * span f X i) in
        er ∙ rw (ep, eq) (rw (← laid_of f shared, ← is, t) (or_swap (ltb (5 * x) y) (ltb (5 * y) x)))

    pub bare_one : (i j : ℕ) → everywhere ≡ false → everywhere ≡ unbalanced_panel f i j
    bare_one i j t = rw (← laid_of f shared, ← is, t)

-- ---- of one panel

module _ {f : List ℕ} {i j : ℕ} {x y : List ℕ} (e : refusal f ≡ 0) (at : InPanel f i j) (sx : Spans f X x) (sy : Spans f Y y) where
  pub values_at : Value (get_or x i 0) × Value (get_or y j 0)
  values_at = (record { most = (spans_in f e X sx refl).most i at.x_bay }, record { most = (spans_in f e Y sy refl).most j at.y_bay })

  pub slender_one : {r : Bool} → r ≡ apart 2 (get_or x i 0) (get_or y j 0) → r ≡ slender_panel f i j
  unfolding slender_panel
  slender_one q =
      q ∙ rw (
        sx.is i (omega (arith, at.x_bay, (fair f e).bays_in X)),
        sy.is j (omega (arith, at.y_bay, (fair f e).bays_in Y)),
      ) (sym (apart_ends 2 (span f X i) (span f Y j) (omega arith)))
