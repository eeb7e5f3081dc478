-- A sum of bits tells each of them: bit n is 0 or n, so the sum is a number in base 2 whose digits are the tests.
--     digits, sum_most     the seven digits of the sum, and that it has no more
--     says_digit           a digit is 1 exactly where what its test says holds
--     same_digits          a number below 128 is told by its seven digits
-- Assumes nothing.
use Prim.Native.Nat.{ℕ, ◌+◌, ◌*◌, ◌/◌, ◌%◌, ◌≤◌}
use mathlib.Core.Bool.{Bool, true, false}
use mathlib.Core.Logic.{◌↔◌}
use mathlib.Core.Path.{◌≡◌, refl, sym, ◌∙◌}
use native.Mathlib.Decide.{dec_lt}
use native.Mathlib.Nat.{div-div-eq-div-mul}
use native.Mathlib.Omega.{arith}
use Rattle.numbers.specs.Tests.{Says}
use Rattle.limits.specs.declared.Limit.{Limit}
use Rattle.limits.specs.declared.Limit.TheVariants.{Few, Slender, Uneven, Astray, Heavy, Unbalanced, Thin}
use Rattle.limits.specs.Limits.{bit, sum_of, sum_picked}
use Rattle.limits.specs.Meaning.{number}

scaled : (b : Bool) (n : ℕ) → bit b n ≡ n * bit b 1
scaled true n = omega arith
scaled false n = omega arith

small : (b : Bool) → bit b 1 ≤ 1
small true = omega arith
small false = omega arith

module _ (t : Limit → Bool) where
  sum_is : sum_picked t
      ≡ bit (t Few) 1 + 2 * bit (t Slender) 1 + 4 * bit (t Uneven) 1 + 8 * bit (t Astray) 1 + 16 * bit (t Heavy) 1 + 32 * bit (t Unbalanced) 1 + 64 * bit (t Thin) 1
  unfolding sum_of
  sum_is = rw (scaled (t Slender) 2, scaled (t Uneven) 4, scaled (t Astray) 8, scaled (t Heavy) 16, scaled (t Unbalanced) 32, scaled (t Thin) 64)

  ones : ((l : Limit) → bit (t l) 1 ≤ 1)
  ones l = small (t l)

  pub sum_most : sum_picked t ≤ 127
  sum_most = omega (arith, sum_is, ones Few, ones Slender, ones Uneven, ones Astray, ones Heavy, ones Unbalanced, ones Thin)

  pub digits : (l : Limit) → sum_picked t / number l % 2 ≡ bit (t l) 1
  digits Few = omega (arith, sum_is, ones Few, ones Slender, ones Uneven, ones Astray, ones Heavy, ones Unbalanced, ones Thin)
  digits Slender = omega (arith, sum_is, ones Few, ones Slender, ones Uneven, ones Astray, ones Heavy, ones Unbalanced, ones Thin)
  digits Uneven = omega (arith, sum_is, ones Few, ones Slender, ones Uneven, ones Astray, ones Heavy, ones Unbalanced, ones Thin)
  digits Astray = omega (arith, sum_is, ones Few, ones Slender, ones Uneven, ones Astray, ones Heavy, ones Unbalanced, ones Thin)
  digits Heavy = omega (arith, sum_is, ones Few, ones Slender, ones Uneven, ones Astray, ones Heavy, ones Unbalanced, ones Thin)
  digits Unbalanced = omega (arith, sum_is, ones Few, ones Slender, ones Uneven, ones Astray, ones Heavy, ones Unbalanced, ones Thin)
  digits Thin = omega (arith, sum_is, ones Few, ones Slender, ones Uneven, ones Astray, ones Heavy, ones Unbalanced, ones Thin)

pub says_digit : {b : Bool} {P : Type 0} {n : ℕ} → Says b P → n ≡ bit b 1 → (n ≡ 1) ↔ P
says_digit {b} {P} {n} s e = (λ h. s.holds (on b (sym e ∙ h)), λ p. e ∙ rw (s.passes p))
  where
    on : (b : Bool) → bit b 1 ≡ 1 → b ≡ true
    on true q = refl
    on false q = absurd (omega arith)

-- two digits that say the same are the same
pub same_digit : (m n : ℕ) {P : Type 0} → (m % 2 ≡ 1) ↔ P → (n % 2 ≡ 1) ↔ P → m % 2 ≡ n % 2
same_digit m n p q =
    elim (dec_lt (m % 2) 1) [
      | yes z ↦
          elim (dec_lt (n % 2) 1) [
            | yes w ↦ omega arith
            | no w ↦ absurd (omega (arith, p.1 (q.0 (omega arith))))
          ]
      | no z ↦ omega (arith, q.1 (p.0 (omega arith)))
    ]

-- numbers with the same last digit are the same where their halves are
halves : (v w k : ℕ) → v / (k * 2) ≡ w / (k * 2) → v / k % 2 ≡ w / k % 2 → v / k ≡ w / k
halves v w k e d = omega (arith, div-div-eq-div-mul v k 2, div-div-eq-div-mul w k 2)

highest : (v w : ℕ) → v ≤ 127 → w ≤ 127 → v / 64 % 2 ≡ w / 64 % 2 → v / 64 ≡ w / 64
highest v w hv hw e = omega arith

lowest : (v w : ℕ) → v / 2 ≡ w / 2 → v / 1 % 2 ≡ w / 1 % 2 → v ≡ w
lowest v w e d = omega arith

pub same_digits : {v w : ℕ} → v ≤ 127 → w ≤ 127 → ((l : Limit) → v / number l % 2 ≡ w / number l % 2) → v ≡ w
same_digits {v} {w} hv hw d =
    lowest v w
    (halves v w 2
    (halves v w 4
    (halves v w 8 (halves v w 16 (halves v w 32 (highest v w hv hw (d Thin)) (d Unbalanced)) (d Heavy)) (d Astray)) (d Uneven)) (d Slender)) (d Few)
