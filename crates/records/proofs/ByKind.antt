-- The kinds 1 to 9 among all numbers: what is shown of 0, of each kind and of the numbers past 9 holds of every number (by_kind_lem), and a
-- choice by kind past 9 is its last part (past_kinds). So a law over every number is ten closed cases, which compute, and one more.
-- Assumes nothing.
use Prim.Native.Nat.{ℕ, zero, suc, ◌≤◌}
use mathlib.Core.Bool.{◌||◌}
use mathlib.Core.Path.{◌≡◌, refl}
use native.Mathlib.Omega.{arith}
use lib.Dec.{eqb}
use borrow.Author.Tests.{le-leb, lt-leb, ne_eqb}
use Rattle.records.specs.Kinds.{by_kind, changeable}
use Rattle.numbers.specs.Tests.{within}

module _ (P : ℕ → Type 0) (p0 : P 0) (p1 : P 1) (p2 : P 2) (p3 : P 3) (p4 : P 4) (p5 : P 5) (p6 : P 6) (p7 : P 7) (p8 : P 8) (p9 : P 9)
    (past : (k : ℕ) → 10 ≤ k → P k) where
  pub by_kind_lem : (k : ℕ) → P k
  by_kind_lem zero = p0
  by_kind_lem (suc zero) = p1
  by_kind_lem (suc (suc zero)) = p2
  by_kind_lem (suc (suc (suc zero))) = p3
  by_kind_lem (suc (suc (suc (suc zero)))) = p4
  by_kind_lem (suc (suc (suc (suc (suc zero))))) = p5
  by_kind_lem (suc (suc (suc (suc (suc (suc zero)))))) = p6
  by_kind_lem (suc (suc (suc (suc (suc (suc (suc zero))))))) = p7
  by_kind_lem (suc (suc (suc (suc (suc (suc (suc (suc zero)))))))) = p8
  by_kind_lem (suc (suc (suc (suc (suc (suc (suc (suc (suc zero))))))))) = p9
  by_kind_lem (suc (suc (suc (suc (suc (suc (suc (suc (suc (suc k)))))))))) = past _ (omega arith)

pub past_kinds : {A : Type 0} (k : ℕ) (x1 x2 x3 x4 x5 x6 x7 x8 x9 other : A) → 10 ≤ k → by_kind k x1 x2 x3 x4 x5 x6 x7 x8 x9 other ≡ other
past_kinds k x1 x2 x3 x4 x5 x6 x7 x8 x9 other h =
    rw (
      ne_eqb k 1 (omega arith),
      ne_eqb k 2 (omega arith),
      ne_eqb k 3 (omega arith),
      ne_eqb k 4 (omega arith),
      ne_eqb k 5 (omega arith),
      ne_eqb k 6 (omega arith),
      ne_eqb k 7 (omega arith),
      ne_eqb k 8 (omega arith),
      ne_eqb k 9 (omega arith),
    )

-- "kind 3 or 5..9", as the code tests it
pub changeable_test : (k : ℕ) → changeable k ≡ (eqb k 3 || within 5 9 k)
unfolding changeable
changeable_test =
    by_kind_lem (λ k. changeable k ≡ (eqb k 3 || within 5 9 k)) refl refl refl refl refl refl refl refl refl refl
    (λ k h. rw (past_kinds k _ _ _ _ _ _ _ _ _ _ h, ne_eqb k 3 (omega arith), le-leb 5 k (omega arith), lt-leb k 9 h))
