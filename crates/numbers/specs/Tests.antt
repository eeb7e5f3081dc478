-- Tests that compute: of every number below n, of some number below n; and what a test says.
-- Assumes nothing.
use Rattle.std.specs.Prelude.{Bool, true, false, not, cond, ◌&&◌, ◌||◌, ◌≡◌, ℕ, zero, suc, ◌<◌, leb}

-- either, where w is true, or both
abbrev pub joined : Bool → Bool → Bool → Bool
joined w a b = cond w (a || b) (a && b)

-- the answer of a loop that stops with w at the first number below n whose test answers w, and otherwise ends with the other answer
unfoldable pub until : Bool → ℕ → (ℕ → Bool) → Bool
until w zero p = not w
until w (suc n) p = joined w (until w n p) (p n)

-- every number below n passes: the loop stops at the first that fails
abbrev pub all : ℕ → (ℕ → Bool) → Bool
all = until false

-- some number below n passes: the loop stops at the first that does
abbrev pub some : ℕ → (ℕ → Bool) → Bool
some = until true

-- every number below n has P; some number below n has P
abbrev pub All : ℕ → (ℕ → Type 0) → Type 0
All n P = (k : ℕ) → k < n → P k

abbrev pub Some : ℕ → (ℕ → Type 0) → Type 0
Some n P = (k : ℕ) × (k < n) × P k

-- two tests agree
abbrev pub same : Bool → Bool → Bool
same a b = cond a b (not b)

-- least..most
abbrev pub within : ℕ → ℕ → ℕ → Bool
within least most x = leb least x && leb x most

-- a test says P: it passes exactly where P holds
pub record Says (b : Bool) (P : Type 0) : Type 0 where
  pub holds : b ≡ true → P
  pub passes : P → b ≡ true
