-- A number's fewest digits, as io's `Fewest` has them, are those that `decimal` computes: each division by ten takes one digit away.
-- Assumes nothing.
use mathlib.Core.Path.{◌≡◌, sym, ap}
use Prim.Native.Nat.{ℕ, zero, suc, ◌/◌, ◌-◌, ◌≤◌, ◌<◌, ◌^◌}
use native.Mathlib.Nat.{pow-le-pow_right, pow-suc}
use native.Mathlib.Decide.{dec_le}
use native.Mathlib.Omega.{arith}
use borrow.Author.Tests.{lt-ltb, le-ltb}
use Rattle.io.specs.Digits.{last_digits, IsDigitCount}
use Rattle.sheets.specs.Text.{places, decimal}

-- a number below 10 ^ m has at most m digits
pub at_most : (m n k : ℕ) → 1 ≤ m → n < 10 ^ m → IsDigitCount 10 1 n k → k ≤ m
at_most m n k some small f =
    elim (dec_le k m) [
      | yes h ↦ h
      | no h ↦ absurd (omega (arith, f.2 (omega (arith, h)), pow-le-pow_right {n = 10} (omega arith) {i = m} {j = k - 1} (omega (arith, h))))
    ]

-- fuel for j divisions counts j + 1 digits
counted : (fuel n j : ℕ) → j ≤ fuel → IsDigitCount 10 1 n (suc j) → places fuel n ≡ suc j
counted zero n j h f = omega arith
counted (suc fuel) n zero h f = rw (lt-ltb n 10 f.1)
counted (suc fuel) n (suc j) h f =
    let e : suc (suc j) - 1 ≡ suc j = omega arith in
    let e' : suc j - 1 ≡ j = omega arith in
    let many : 10 ^ suc j ≤ n = rw e at (f.2 (omega arith)) in
    let ten : 10 ≤ n = omega (arith, pow-le-pow_right {n = 10} (omega arith) {i = 1} {j = suc j} (omega arith)) in
    rw (le-ltb n 10 ten)
    (ap suc (counted fuel (n / 10) j (omega arith) (omega arith, omega (arith, f.1, pow-suc 10 (suc j)), λ l. rw e' (omega (arith, pow-suc 10 j)))))

-- THE law: any k that is the fewest digits of a number to 64 bits gives its decimal
pub decimal_fewest : (n k : ℕ) → n < 2 ^ 64 → IsDigitCount 10 1 n k → last_digits 10 k n ≡ decimal n
unfolding decimal
decimal_fewest n zero small f = absurd (omega (arith, f.0))
decimal_fewest n (suc j) small f =
    ap (λ (k : ℕ). last_digits 10 k n) (sym (counted 19 n j (omega (arith, at_most 20 n (suc j) (omega arith) (omega arith) f)) f))
