-- Checks in the order tried: the number of the first whose test fails, and when a number is given.
-- Assumes nothing.
use Rattle.std.specs.Prelude.{ℕ, suc, Bool, cond, List, [], ◌∷◌, ◌⊎◌, ◌≡◌}
use Rattle.numbers.specs.Tests.{Says}

-- a check: "number n unless the test passes, which says P"
infix 68 ◌unless◌says◌
pub data Check : Type 1 where
  ◌unless◌says◌ : ℕ → Bool → Type 0 → Check

-- checks in the order tried
abbrev pub Chain : Type 1
Chain = List Check

-- the number of the first test that fails; success is 0
unfoldable pub tried : Chain → ℕ
tried [] = 0
tried (n unless ok says P ∷ rest) = cond ok (tried rest) n

-- number n is given: the first check's statement does not hold and n is its number, or it holds and the rest gives n; success is 0
unfoldable pub GivenBy : Chain → ℕ → Type 0
GivenBy [] n = n ≡ 0
GivenBy (m unless ok says P ∷ rest) n = ((¬ P) × (n ≡ m)) ⊎ (P × GivenBy rest n)

-- every statement holds
unfoldable pub Holds : Chain → Type 0
Holds [] = Unit
Holds (m unless ok says P ∷ rest) = P × Holds rest

-- each test says its statement, and no number is 0
infixr 5 ◌then◌
pub data Sound : Chain → Type 1 where
  done : Sound []
  ◌then◌ : {n : ℕ} {ok : Bool} {P : Type 0} {rest : Chain} → Says ok P → Sound rest → Sound (suc n unless ok says P ∷ rest)
