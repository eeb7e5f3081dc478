-- The answer to "is it clear?" is what 02 asks of it, and no other is: its number is the one that is given, and its value is 1 or 0 by the verdict.
-- Assumes nothing.
use Prim.Native.Nat.{ℕ}
use mathlib.Core.Bool.{Bool, true, false}
use mathlib.Core.List.{List}
use mathlib.Core.Logic.{◌↔◌}
use mathlib.Core.Path.{◌≡◌, refl, sym, ◌∙◌}
use native.Mathlib.Omega.{arith}
use mir.Val.{bool_byte}
use Rattle.numbers.specs.Tests.{Says}
use Rattle.numbers.proofs.Tests.{says_eq, by_test, by_says}
use Rattle.numbers.proofs.Chains.{given_one}
use Rattle.floor.specs.Refusal.{floor_checks, refusal}
use Rattle.floor.proofs.Meaning.{given}
use Rattle.limits.proofs.Meaning.{says_clear}
use Rattle.answers.specs.declared.Answer.{Answer}
use Rattle.answers.proofs.Answers.{same_answer}
use Rattle.clear.specs.Answers.{yes_no, clear_of, AcceptedAndClear, ClearAnswer}

-- a truth value as a number
pub yes_byte : {a b : Bool} → a ≡ b → bool_byte a ≡ yes_no b
yes_byte {a} e = rw (← e) (plain a)
  where
    plain : (b : Bool) → bool_byte b ≡ yes_no b
    plain true = refl
    plain false = refl

-- 1 says what the test says, and 0 the contrary
yes_says : {b : Bool} {P Q : Type 0} → Says b P → (P → Q) → (Q → P) → ((yes_no b ≡ 1) ↔ Q) × ((yes_no b ≡ 0) ↔ ¬ Q)
yes_says {P = P} {Q} s to from =
    by_test (λ n. ((n ≡ 1) ↔ Q) × ((n ≡ 0) ↔ ¬ Q)) s
    (λ p. ((λ e. to p, λ q. refl), (λ e. absurd (omega arith), λ no. absurd (no (to p)))))
    (λ n. ((λ e. absurd (omega arith), λ q. absurd (n (from q))), (λ e q. n (from q), λ no. refl)))

module _ (f : List ℕ) where
  pub clear_answer : ClearAnswer f (clear_of f)
  unfolding clear_of
  clear_answer =
      by_test (ClearAnswer f) (says_eq (refusal f) 0)
      (λ z. let g = (given 0 f).0 z in
      let s = yes_says {Q = AcceptedAndClear f} (says_clear f z) (λ c. (g, c)) (λ c. c.1) in
      record { given = g; is_yes = s.0; is_no = s.1 })
      (λ n. record {
        given = (given (refusal f) f).0 refl;
        is_yes = (λ e. absurd (omega arith), λ c. absurd (n ((given 0 f).1 c.0)));
        is_no = (λ e c. n ((given 0 f).1 c.0), λ no. refl);
      })

  pub clear_answer_one : {a b : Answer} → ClearAnswer f a → ClearAnswer f b → a ≡ b
  clear_answer_one {a} {b} p q =
      same_answer a b (given_one (floor_checks f) p.given q.given)
      (by_says (says_eq a.value 1) (λ e. e ∙ sym (q.is_yes.1 (p.is_yes.0 e)))
      (λ n. let no : ¬ AcceptedAndClear f = λ s. n (p.is_yes.1 s) in p.is_no.1 no ∙ sym (q.is_no.1 no)))
