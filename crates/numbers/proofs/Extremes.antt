-- The most and the least of n values: each bounds every value and is one of them, so they tell whether any two values are far apart.
--     most_more, least_more          one turn more of a loop
--     least_within_lem                   a bound of the values bounds it
--     apart_extremes, apart_ends     far apart, of values by their extremes, of two numbers by the larger and the smaller
-- Assumes nothing.
use Prim.Native.Nat.{ℕ, zero, suc, ◌+◌, ◌*◌, ◌≤◌, ◌<◌, min, max}
use mathlib.Core.Bool.{◌||◌, or-false}
use mathlib.Core.Logic.{◌⊎◌, inl, inr, ⊎_elim}
use mathlib.Core.Path.{◌≡◌}
use native.Mathlib.Nat.{not-suc-le-zero, le_trans, mul-le-mul_left, mul-le-mul_right}
use native.Mathlib.Numerals.{add-one}
use native.Mathlib.Decide.{dec_lt, dec_le}
use native.Mathlib.Omega.{arith}
use lib.Dec.{ltb}
use borrow.Author.Tests.{le-ltb}
use Rattle.numbers.specs.Tests.{some, All, Some}
use Rattle.numbers.specs.Extremes.{most_of, least_of, apart}
use Rattle.numbers.proofs.Tests.{says_lt, says_or, says_some, says_as, says_one}

module _ (n : ℕ) (v : ℕ → ℕ) where
  pub most_more : most_of (n + 1) v ≡ max (most_of n v) (v n)
  unfolding most_of
  most_more = rw add-one

  pub least_more : least_of (n + 1) v ≡ min (least_of n v) (v n)
  unfolding least_of
  least_more = rw add-one

-- ---- they bound every value

pub most_bounds : (n : ℕ) (v : ℕ → ℕ) → All n (λ k. v k ≤ most_of n v)
unfolding most_of
most_bounds zero v k l = absurd (not-suc-le-zero l)
most_bounds (suc n) v k l =
    elim (dec_lt k n) [
      | yes m ↦ omega (arith, most_bounds n v k m)
      | no m ↦ let e : k ≡ n = omega arith in rw e (omega arith)
    ]

pub least_bounds : (n : ℕ) (v : ℕ → ℕ) → All n (λ k. least_of n v ≤ v k)
unfolding least_of
least_bounds zero v k l = absurd (not-suc-le-zero l)
least_bounds (suc n) v k l =
    elim (dec_lt k n) [
      | yes m ↦ omega (arith, least_bounds n v k m)
      | no m ↦ let e : k ≡ n = omega arith in rw e (omega arith)
    ]

-- ---- and one value comes up to each

pub most_reached : (n : ℕ) (v : ℕ → ℕ) → 0 < n → Some n (λ k. most_of n v ≤ v k)
unfolding most_of
most_reached zero v pos = absurd (not-suc-le-zero pos)
most_reached (suc zero) v pos = (0, pos, omega arith)
most_reached (suc (suc n)) v pos =
    let s = most_reached (suc n) v (omega arith) in
    elim (dec_le (v (suc n)) (most_of (suc n) v)) [
      | yes h ↦ (s.0, omega (arith, s.1), omega (arith, s.2))
      | no h ↦ (suc n, omega arith, omega arith)
    ]

pub least_reached : (n : ℕ) (v : ℕ → ℕ) → 0 < n → Some n (λ k. v k ≤ least_of n v)
unfolding least_of
least_reached zero v pos = absurd (not-suc-le-zero pos)
least_reached (suc zero) v pos = (0, pos, omega arith)
least_reached (suc (suc n)) v pos =
    let s = least_reached (suc n) v (omega arith) in
    elim (dec_le (least_of (suc n) v) (v (suc n))) [
      | yes h ↦ (s.0, omega (arith, s.1), omega (arith, s.2))
      | no h ↦ (suc n, omega arith, omega arith)
    ]

-- ---- a bound

pub least_within_lem : (n M : ℕ) (v : ℕ → ℕ) → 0 < n → All n (λ k. v k ≤ M) → least_of n v ≤ M
least_within_lem n M v pos h = le_trans (least_bounds n v 0 pos) (h 0 pos)

-- ---- far apart

module _ (k n m : ℕ) (a b : ℕ → ℕ) where
  -- some value of a exceeds k times some value of b
  abbrev Exceeds : Type 0
  Exceeds = Some m (λ j. Some n (λ i. k * b j < a i))

  to_ends : Exceeds → k * least_of m b < most_of n a
  to_ends s =
      let t = s.2 in
      omega (arith, t.2, mul-le-mul_left k (least_bounds m b s.0 s.1), most_bounds n a t.0 t.1)

  of_ends : 0 < n → 0 < m → k * least_of m b < most_of n a → Exceeds
  of_ends pn pm h =
      let s = least_reached m b pm in
      let t = most_reached n a pn in
      (s.0, s.1, (t.0, t.1, omega (arith, h, mul-le-mul_left k s.2, t.2)))

-- any two values, one of a and one of b
pub apart_extremes : (k n m : ℕ) (a b : ℕ → ℕ) → 0 < n → 0 < m
    → some m (λ j. some n (λ i. apart k (a i) (b j))) ≡ (ltb (k * least_of m b) (most_of n a) || ltb (k * least_of n a) (most_of m b))
apart_extremes k n m a b pn pm =
    says_one
    (says_some m (λ j. says_some n (λ i. says_or (says_lt (k * b j) (a i)) (says_lt (k * a i) (b j)))))
    (says_as pair ends (says_or (says_lt (k * least_of m b) (most_of n a)) (says_lt (k * least_of n a) (most_of m b))))
  where
    pair : (k * least_of m b < most_of n a) ⊎ (k * least_of n a < most_of m b) → Some m (λ j. Some n (λ i. (k * b j < a i) ⊎ (k * a i < b j)))
    pair (inl h) = let s = of_ends k n m a b pn pm h in (s.0, s.1, (s.2.0, s.2.1, inl s.2.2))
    pair (inr h) = let s = of_ends k m n b a pm pn h in (s.2.0, s.2.1, (s.0, s.1, inr s.2.2))

    ends : Some m (λ j. Some n (λ i. (k * b j < a i) ⊎ (k * a i < b j))) → (k * least_of m b < most_of n a) ⊎ (k * least_of n a < most_of m b)
    ends s =
        let t = s.2 in
        ⊎_elim
        (λ h. inl (to_ends k n m a b (s.0, s.1, (t.0, t.1, h))))
        (λ h. inr (to_ends k m n b a (t.0, t.1, (s.0, s.1, h))))
        t.2

-- the larger of two numbers exceeds k times the smaller
pub apart_ends : (k x y : ℕ) → 0 < k → ltb (k * min x y) (max x y) ≡ apart k x y
apart_ends k x y pos =
    elim (dec_le x y) [
      | yes h ↦
          let e : min x y ≡ x = omega arith in
          let e' : max x y ≡ y = omega arith in
          rw (e, e', le-ltb (k * y) x (omega (arith, mul-le-mul_right y pos)))
      | no h ↦
          let e : min x y ≡ y = omega arith in
          let e' : max x y ≡ x = omega arith in
          rw (e, e', le-ltb (k * x) y (omega (arith, mul-le-mul_right x pos)), or-false (ltb (k * y) x))
    ]
