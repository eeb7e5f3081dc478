-- The answer to a question "the least As with P", asked where Ok holds. 01 gives its refusal numbers "exactly when".
-- Assumes nothing.
use Rattle.std.specs.Prelude.{ℕ, ◌↔◌, ◌≡◌}
use Rattle.numbers.specs.Least.{Least}
use Rattle.answers.specs.declared.Answer.{Answer}

pub record Answered (Ok : Type 0) (P : ℕ → Type 0) (a : Answer) : Type 0 where
  -- 11: "steel query value out of range"
  pub outside : (a.refusal ≡ 11) ↔ ¬ Ok
  -- 12: "no steel area fits"
  pub none : (a.refusal ≡ 12) ↔ (Ok × ((As : ℕ) → ¬ P As))
  -- "Success is 0"
  pub found : (a.refusal ≡ 0) ↔ (Ok × ((As : ℕ) × P As))
  -- "Answer the least whole As"
  pub least : a.refusal ≡ 0 → Least P a.value
  -- "Refused queries answer 0 mm or 0 mm²"
  pub refused : ¬ (a.refusal ≡ 0) → a.value ≡ 0
