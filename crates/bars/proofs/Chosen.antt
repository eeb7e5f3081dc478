-- The choice of bars is what 02 asks, and no other is.
--     allowed, reach      over the bar: its widest spacing is allowed where it is not below 80, and no allowed spacing is wider
--     choice_is           so the first of the three that keeps 80 is the smallest that allows a spacing, at its largest
--     choice_one          no second choice
--     some_chosen, none_chosen    what an option of bars tells of the choice
-- Assumes nothing.
use Prim.Native.Nat.{ℕ, ◌*◌, ◌/◌, ◌≤◌, ◌<◌, min}
use mathlib.Core.Bool.{Bool, true, false, cond}
use mathlib.Core.Path.{◌≡◌, refl, sym, ◌∙◌}
use native.Mathlib.Decide.{dec_le, ℕ_discrete}
use native.Mathlib.Nat.{le_trans, le_antisymm, mul_comm, mul-le-mul_left, mul-le-mul_right, le-div_iff_mul-le, div-mul-le_self}
use native.Mathlib.Omega.{arith}
use lib.Dec.{lit<}
use borrow.Author.Tests.{le-leb, lt-leb}
use Rattle.bars.specs.declared.choice.Bars.{Bars}
use Rattle.std.specs.Prelude.{Option, Some, None}
use lib.Dec.{eqb}
use borrow.Author.Rules.{rules}
use Rattle.bars.specs.Choice.{bars, widest, bars_for, if_any}
use Rattle.bars.specs.Meaning.{Largest, Allows, Bar, Chosen, NoBar, Choice}
use Rattle.bars.specs.Meaning.Bar.{ten, twelve, sixteen}

pub largest_one : {P : ℕ → Type 0} {a b : ℕ} → Largest P a → Largest P b → a ≡ b
largest_one {P} {a} {b} p q = le_antisymm (q.last a p.holds) (p.last b q.holds)

-- ---- one bar

module _ (bar width area t : ℕ) (some : 0 < area) where
  widest≤ : widest bar width area t ≤ min (bar * width / area) (2 * t)
  unfolding widest
  widest≤ = div-mul-le_self (min (bar * width / area) (2 * t)) 10

  allowed : 80 ≤ widest bar width area t → Allows bar width area t (widest bar width area t)
  unfolding widest
  allowed h =
      let q = bar * width / area in
      let below : min q (2 * t) / 10 * 10 ≤ q = omega (arith, widest≤) in
      record {
        tens = (min q (2 * t) / 10, refl);
        least = h;
        most = omega (arith, widest≤);
        enough = le_trans (mul-le-mul_left area below) (rw (mul_comm area q) (div-mul-le_self (bar * width) area));
      }

  reach : (s : ℕ) → Allows bar width area t s → s ≤ widest bar width area t
  unfolding widest
  reach s a =
      let m = a.tens.0 in
      let q : s ≤ bar * width / area = (le-div_iff_mul-le some).1 (rw (mul_comm s area) a.enough) in
      let n : m ≤ min (bar * width / area) (2 * t) / 10 = (le-div_iff_mul-le (lit< tt)).1 (omega (arith, q, a.most, a.tens.1)) in
      rw a.tens.1 (mul-le-mul_right 10 n)

  largest : 80 ≤ widest bar width area t → Largest (Allows bar width area t) (widest bar width area t)
  largest h = record { holds = allowed h; last = reach }

  none : ¬ (80 ≤ widest bar width area t) → (s : ℕ) → ¬ Allows bar width area t s
  none n s a = n (le_trans a.least (reach s a))

-- ---- the three, from the smallest on

module _ (width area t : ℕ) where
  -- none of them allows a spacing
  abbrev Never : ℕ → Type 0
  Never bar = (s : ℕ) → ¬ Allows bar width area t s

  below_ten : (d a : ℕ) → Bar d a → d < 10 → Never a
  below_ten d a ten h = absurd (omega arith)
  below_ten d a twelve h = absurd (omega arith)
  below_ten d a sixteen h = absurd (omega arith)

  below_twelve : Never 79 → (d a : ℕ) → Bar d a → d < 12 → Never a
  below_twelve n d a ten h = n
  below_twelve n d a twelve h = absurd (omega arith)
  below_twelve n d a sixteen h = absurd (omega arith)

  below_sixteen : Never 79 → Never 113 → (d a : ℕ) → Bar d a → d < 16 → Never a
  below_sixteen n m d a ten h = n
  below_sixteen n m d a twelve h = m
  below_sixteen n m d a sixteen h = absurd (omega arith)

  no_bar : Never 79 → Never 113 → Never 201 → NoBar width area t
  no_bar n m k d a ten = n
  no_bar n m k d a twelve = m
  no_bar n m k d a sixteen = k

  taken : {b : Bars} → 0 < b.diameter → Chosen width area t b → Choice width area t b
  taken {b} pos c =
      record {
        none = (λ z. absurd (omega arith), λ n. absurd (n b.diameter c.each c.bar b.spacing c.spacing.holds));
        chosen = λ z. c;
        zero = λ z. absurd (omega arith);
      }

  module _ (some : 0 < area) where
    pub choice_is : Choice width area t (bars_for width area t)
    unfolding bars_for
    choice_is =
        elim (dec_le 80 (widest 79 width area t)) [
          | yes h ↦
              rw (le-leb 80 (widest 79 width area t) h)
              (taken (lit< tt) (record { each = 79; bar = ten; spacing = largest 79 width area t some h; smallest = below_ten }))
          | no n ↦
              rw (lt-leb 80 (widest 79 width area t) (omega (arith, n)))
              (elim (dec_le 80 (widest 113 width area t)) [
                | yes h ↦
                    rw (le-leb 80 (widest 113 width area t) h)
                    (taken (lit< tt) (record { each = 113; bar = twelve; spacing = largest 113 width area t some h; smallest = below_twelve (none 79 width area t some n) }))
                | no m ↦
                    rw (lt-leb 80 (widest 113 width area t) (omega (arith, m)))
                    (elim (dec_le 80 (widest 201 width area t)) [
                      | yes h ↦
                          rw (le-leb 80 (widest 201 width area t) h)
                          (taken (lit< tt) (record {
                            each = 201;
                            bar = sixteen;
                            spacing = largest 201 width area t some h;
                            smallest = below_sixteen (none 79 width area t some n) (none 113 width area t some m);
                          }))
                      | no k ↦
                          rw (lt-leb 80 (widest 201 width area t) (omega (arith, k)))
                          (record {
                            none = (λ z. no_bar (none 79 width area t some n) (none 113 width area t some m) (none 201 width area t some k), λ z. refl);
                            chosen = λ z. absurd (z refl);
                            zero = λ z. refl;
                          })
                    ])
              ])
        ]

-- ---- no second choice

one_area : {d a b : ℕ} → Bar d a → Bar d b → a ≡ b
one_area ten ten = refl
one_area twelve twelve = refl
one_area sixteen sixteen = refl

module _ {width area t : ℕ} where
  pub chosen_one : {b c : Bars} → Chosen width area t b → Chosen width area t c → b ≡ c
  chosen_one {b} {c} p q =
      let u : ¬ (b.diameter < c.diameter) = λ h. q.smallest b.diameter p.each p.bar h b.spacing p.spacing.holds in
      let v : ¬ (c.diameter < b.diameter) = λ h. p.smallest c.diameter q.each q.bar h c.spacing q.spacing.holds in
      let e : b.diameter ≡ c.diameter = omega (arith, u, v) in
      let a : p.each ≡ q.each = one_area (rw e at p.bar) q.bar in
      let s : b.spacing ≡ c.spacing = largest_one (rw a at p.spacing) q.spacing in
      λ i. record { diameter = e i; spacing = s i }

  pub choice_one : {b c : Bars} → Choice width area t b → Choice width area t c → b ≡ c
  choice_one {b} {c} p q =
      elim (ℕ_discrete b.diameter 0) [
        | yes z ↦
            let y = q.none.1 (p.none.0 z) in
            let e : b.diameter ≡ c.diameter = z ∙ sym y in
            let s : b.spacing ≡ c.spacing = p.zero z ∙ sym (q.zero y) in
            λ i. record { diameter = e i; spacing = s i }
        | no n ↦ chosen_one (p.chosen n) (q.chosen (λ y. n (p.none.1 (q.none.0 y))))
      ]

-- ---- as an option

pub some_chosen : (c : Bars) {o : Option Bars} {b : Bars} → o ≡ if_any c → o ≡ Some b → b ≡ c
some_chosen c e h = by (eqb c.diameter 0) (sym h ∙ e)
  where
    by : (t : Bool) {b : Bars} → Some b ≡ cond t None (Some c) → b ≡ c
    by true z = absurd (search rules)
    by false z = search rules

-- where there are none both numbers are 0
pub none_chosen : (width area t : ℕ) {o : Option Bars} → o ≡ if_any (bars_for width area t) → o ≡ None → bars 0 0 ≡ bars_for width area t
unfolding bars_for
none_chosen width area t e h = by _ _ _ _ _ _ (sym h ∙ e)
  where
    by : (x y z : Bool) (p q r : ℕ) → let c : Bars = cond x (bars 10 p) (cond y (bars 12 q) (cond z (bars 16 r) (bars 0 0))) in
        None ≡ if_any c → bars 0 0 ≡ c
    by true y z p q r k = absurd (search rules)
    by false true z p q r k = absurd (search rules)
    by false false true p q r k = absurd (search rules)
    by false false false p q r k = refl
