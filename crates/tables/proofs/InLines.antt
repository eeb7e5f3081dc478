-- Things in lines, over how many a line has: a line's follow one another, the lines follow one another, and the y frames follow the x frames,
-- so the quotient and the remainder by a line's number find the place again. Numbers below the count and places are the same things.
-- Assumes nothing.
use Prim.Native.Nat.{ℕ, ◌+◌, ◌-◌, ◌*◌, ◌/◌, ◌%◌, ◌<◌, ◌≤◌}
use mathlib.Core.Path.{◌≡◌, sym, ap, ◌∙◌}
use native.Mathlib.Decide.{dec_lt}
use native.Mathlib.Nat.{mul-add-div_right, mul-add-mod_self_right, div-eq_of_lt, mod-eq_of_lt, mod-lt, div-add-mod', div-lt_iff_lt-mul, add-zero, mul-zero}
use native.Mathlib.Omega.{arith}
use borrow.Author.Tests.{lt-ltb, le-ltb}
use Rattle.numbers.proofs.Records.{next_record}
use Rattle.numbers.proofs.Tests.{by_test, says_lt}
use Rattle.plan.specs.declared.ways.Way.{Way}
use Rattle.plan.specs.declared.ways.Way.TheVariants.{X, Y}
use Rattle.tables.specs.Places.{Place, start_in, count_in, rank_in, place_in, InsideOf}

-- ---- one direction, whose lines have n

at_line : (n l s : ℕ) → s < n → (l * n + s) / n ≡ l
at_line n l s h = mul-add-div_right (omega arith) l s ∙ ap (λ (q : ℕ). l + q) (div-eq_of_lt h) ∙ add-zero l

at_span : (n l s : ℕ) → s < n → (l * n + s) % n ≡ s
at_span n l s h = mul-add-mod_self_right l n s ∙ mod-eq_of_lt h

-- a number below a product has a positive factor, so its quotient and its remainder are a place
pub some_span : (n m k : ℕ) → k < m * n → 0 < n
some_span n m k h =
    elim (dec_lt 0 n) [
      | yes l ↦ l
      | no l ↦ let e : n ≡ 0 = omega arith in absurd (omega (arith, mul-zero m, ap (λ (q : ℕ). m * q) e))
    ]

line_in : (n m k : ℕ) → k < (m + 1) * n → k / n ≤ m
line_in n m k h = omega (arith, (div-lt_iff_lt-mul {k = n} {x = k} {y = m + 1} (some_span n (m + 1) k h)).1 h)

span_in : (n m k : ℕ) → k < (m + 1) * n → k % n < n
span_in n m k h = mod-lt k (some_span n (m + 1) k h)

-- ---- both

module _ (n last : Way → ℕ) where
  lines_end : (d : Way) → start_in n last d + (last d + 1) * n d ≤ count_in n last
  lines_end X = omega arith
  lines_end Y = omega arith

  -- a line ends within the count
  pub line_ends : (d : Way) (l : ℕ) → l ≤ last d → start_in n last d + l * n d + n d ≤ count_in n last
  line_ends d l h =
      let k : l < last d + 1 = omega arith in
      omega (arith, next_record (n d) k, lines_end d)

  pub below_count : {p : Place} → InsideOf n last p → rank_in n last p < count_in n last
  below_count {p} h = omega (arith, line_ends p.way p.line h.line, h.span)

  pub its_place : {p : Place} → InsideOf n last p → place_in n last (rank_in n last p) ≡ p
  its_place {p} h = go p.way p.line p.span h.line h.span
    where
      go : (d : Way) (l s : ℕ) → l ≤ last d → s < n d → place_in n last (start_in n last d + l * n d + s) ≡ record { way = d; line = l; span = s }
      go X l s hl hs =
          let k : l < last X + 1 = omega arith in
          let e : 0 + l * n X + s ≡ l * n X + s = omega arith in
          rw (e, lt-ltb (l * n X + s) ((last X + 1) * n X) (omega (arith, next_record (n X) k)), at_line (n X) l s hs, at_span (n X) l s hs)
      go Y l s hl hs =
          let x = (last X + 1) * n X in
          let e : x + l * n Y + s - x ≡ l * n Y + s = omega arith in
          rw (le-ltb (x + l * n Y + s) x (omega arith), e, at_line (n Y) l s hs, at_span (n Y) l s hs)

  -- no two places have one number
  pub one_place : {p q : Place} → InsideOf n last p → InsideOf n last q → rank_in n last p ≡ rank_in n last q → p ≡ q
  one_place hp hq e = sym (its_place hp) ∙ ap (place_in n last) e ∙ its_place hq

  -- every number below the count is that of its place
  pub covered : {k : ℕ} → k < count_in n last → InsideOf n last (place_in n last k) × (rank_in n last (place_in n last k) ≡ k)
  covered {k} h =
      by_test (λ p. InsideOf n last p × (rank_in n last p ≡ k)) (says_lt k (start_in n last Y))
      (λ l. (record { line = line_in (n X) (last X) k l; span = span_in (n X) (last X) k l }, omega (arith, div-add-mod' k (n X))))
      (λ l.
      let r : k - start_in n last Y < (last Y + 1) * n Y = omega (arith, h) in
      (record { line = line_in (n Y) (last Y) (k - start_in n last Y) r; span = span_in (n Y) (last Y) (k - start_in n last Y) r }, omega (arith, div-add-mod' (k - start_in n last Y) (n Y))))
