-- What closes a decision.
--     cases      `search cases` at a return closes "the answer is what the definition by tests says": each test of the definition is
--                rewritten by what the branches on the way say
--     le_below   a range's pattern `lo..=hi` is compiled to `x < hi + 1`, so its arm knows `x < 13` where the definition tests `x ≤ 12`
-- Assumes nothing.
use Prim.Native.Nat.{ℕ, suc, ◌≤◌, ◌<◌}
use mathlib.Core.Path.{◌≡◌, sym, subst, ◌∙◌}
use native.Mathlib.Nat.{le_of_suc-le-suc}
use native.Mathlib.Omega.{arith}
use lib.Dec.{T, eqb, eqb→eq}
use borrow.Author.Tests.{le-leb, lt-leb, lt-ltb, le-ltb, eq-eqb, ne_eqb, leb-true, leb-false}

pub le_below : (x n m : ℕ) → x < m → T (eqb m (suc n)) → x ≤ n
le_below x n m h t = le_of_suc-le-suc (subst (λ (k : ℕ). x < k) (eqb→eq m (suc n) t) h)

pub ruleset cases = (tt, lt-ltb, le-ltb, le-leb, lt-leb, eq-eqb, ne_eqb, le_below, leb-true, leb-false)

-- the `_` arm of a match on many numbers: one step up for each number that it is not
pub above : {n k : ℕ} → n ≤ k → (k ≡ n → ⊥) → suc n ≤ k
above h ne = omega (arith, ne)

-- no second answer satisfies a promise that is an equation
pub only : {A : Type 0} {x y z : A} → x ≡ z → y ≡ z → x ≡ y
only e q = e ∙ sym q
