-- The first number that passes a test: what it is, and that no other number is it.
-- Assumes nothing.
use Prim.Native.Nat.{ℕ, zero, suc, ◌+◌, ◌≤◌, ◌<◌}
use mathlib.Core.Bool.{Bool, true}
use mathlib.Core.Path.{◌≡◌}
use native.Mathlib.Decide.{dec_lt}
use native.Mathlib.Omega.{arith}
use Rattle.numbers.proofs.Tests.{says_itself, by_test}
use Rattle.steel.specs.Search.{first}

-- r is the first of the n numbers from k on that passes, or the number after them where none does
pub record First (p : ℕ → Bool) (n k r : ℕ) : Type 0 where
  pub from : k ≤ r
  pub upto : r ≤ k + n
  pub below : (j : ℕ) → k ≤ j → j < r → ¬ (p j ≡ true)
  pub passes : r < k + n → p r ≡ true

pub first_first : (p : ℕ → Bool) (n k : ℕ) → First p n k (first p n k)
unfolding first
first_first p zero k = record { from = omega arith; upto = omega arith; below = λ j h l e. omega arith; passes = λ l. absurd (omega arith) }
first_first p (suc n) k =
    by_test (First p (suc n) k) (says_itself (p k))
    (λ e. record { from = omega arith; upto = omega arith; below = λ j h l q. omega arith; passes = λ l. e })
    (λ e. let f = first_first p n (suc k) in record {
      from = omega (arith, f.from);
      upto = omega (arith, f.upto);
      below = λ j h l q.
          elim (dec_lt k j) [
            | yes g ↦ f.below j g l q
            | no g ↦ let i : j ≡ k = omega arith in e (rw i at q)
          ];
      passes = λ l. f.passes (omega arith);
    })

-- no second number
pub first_one : {p : ℕ → Bool} {n k r s : ℕ} → First p n k r → First p n k s → r ≡ s
first_one {r = r} {s = s} f g =
    let u : ¬ (s < r) = λ h. f.below s g.from h (g.passes (omega (arith, f.upto))) in
    let v : ¬ (r < s) = λ h. g.below r f.from h (f.passes (omega (arith, g.upto))) in
    omega arith
