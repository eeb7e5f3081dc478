-- An answer is its two numbers.
-- Assumes nothing.
use mathlib.Core.Path.{◌≡◌}
use Rattle.answers.specs.declared.Answer.{Answer}
use Rattle.answers.specs.Answers.{answer}

pub same_answer : (a b : Answer) → a.refusal ≡ b.refusal → a.value ≡ b.value → a ≡ b
same_answer a b p q = let e : answer a.refusal a.value ≡ answer b.refusal b.value = cc in e
