-- "Opening a floor tries 1 to 8 and, where none applies, fills the table as under Moments"; 02, One: "Opening fills it with the table", the governing
-- slice, and 13 is tried right after 8.
-- Assumes nothing.
use Rattle.std.specs.Prelude.{ℕ, cond, List, ◌++◌, ◌≡◌, eqb}
use Rattle.numbers.specs.Chains.{Chain, tried}
use Rattle.floor.specs.Refusal.{floor_checks}
use Rattle.answers.specs.declared.Answer.{Answer}
use Rattle.answers.specs.Answers.{answered}
use Rattle.limits.specs.Limits.{verdict}
use Rattle.moments.specs.Lent.{Lent}
use Rattle.moments.specs.Tables.{afresh, room_checks}

unfoldable pub open_checks : List ℕ → Lent → Chain
open_checks f l = floor_checks f ++ room_checks f l

unfoldable pub open_refusal : List ℕ → Lent → ℕ
open_refusal f l = tried (open_checks f l)

-- the answer, and everything lent at exit; "Refusals write nothing"
pub record Opened (f : List ℕ) (l : Lent) (a : Answer) (l' : Lent) : Type 0 where
  pub answer : a ≡ answered (open_refusal f l) (verdict f)
  pub lent : l' ≡ cond (eqb (open_refusal f l) 0) (afresh f l) l
