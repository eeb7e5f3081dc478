-- What functions of this crate ask of their callers. A reader who only wants to know what the program does need not read this file.
-- Assumes nothing.
use Rattle.std.specs.Prelude.{ℕ, ◌+◌, ◌*◌, ◌≤◌, List, ◌≡◌, length}
use Rattle.plan.specs.declared.read.Bays.{Bays}
use Rattle.plan.specs.Asked.{Sized}
use Rattle.floor.specs.Meaning.{First, Counted}
use Rattle.floor.specs.Refusal.{refusal}

-- none of refusals 1 to 7: what the crates above ask
pub record Accepted (f : List ℕ) : Type 0 where
  pub accepted : refusal f ≡ 0

-- the n records from record `from` on lie in the file
pub record Run (f : List ℕ) (from n : ℕ) : Type 0 where
  pub first : from ≤ 54
  pub number : n ≤ 169
  pub inside : (from + n) * 16 ≤ length f

-- b has the bays of f, record 0 has them in range, and the file holds exactly the records that they ask for: what is known after checks 1 to 3
pub record Complete (f : List ℕ) (b : Bays) : Type 0 where
  pub sized : Sized f b
  pub first : First f
  pub counted : Counted f

-- the same of the file alone, for a plan, which has its bays
pub record Filed (f : List ℕ) : Type 0 where
  pub first : First f
  pub counted : Counted f
