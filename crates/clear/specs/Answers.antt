-- 02, Four: "Give a yes or no that stops at the first broken limit. Yes exactly when the full verdict is 0; a refused floor answers no with its number.
-- There is no table here, so only 1 to 7 are tried."
-- That `clear_of` is the answer that `ClearAnswer` describes, and the only one, is proved in proofs/Answers.
-- Assumes nothing.
use Rattle.std.specs.Prelude.{ℕ, Bool, false, cond, List, ◌↔◌, ◌≡◌, eqb}
use Rattle.floor.specs.Refusal.{refusal, Given}
use Rattle.limits.specs.Limits.{is_clear}
use Rattle.limits.specs.Meaning.{Clear}
use Rattle.answers.specs.declared.Answer.{Answer}
use Rattle.answers.specs.Answers.{answer}

-- 1 is yes, 0 is no
abbrev pub yes_no : Bool → ℕ
yes_no b = cond b 1 0

-- "Yes exactly when the full verdict is 0; a refused floor answers no with its number"
unfoldable pub clear_of : List ℕ → Answer
clear_of f = cond (eqb (refusal f) 0) (answer 0 (yes_no (is_clear f))) (answer (refusal f) (yes_no false))

-- an accepted floor on which no limit is broken
abbrev pub AcceptedAndClear : List ℕ → Type 0
AcceptedAndClear f = Given 0 f × Clear f

-- the answer, by statements: the floor's own number, and 1 exactly where it is accepted and clear
pub record ClearAnswer (f : List ℕ) (a : Answer) : Type 0 where
  pub given : Given a.refusal f
  pub is_yes : (a.value ≡ 1) ↔ AcceptedAndClear f
  pub is_no : (a.value ≡ 0) ↔ ¬ AcceptedAndClear f
