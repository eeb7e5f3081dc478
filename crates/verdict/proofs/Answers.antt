-- The panel query's answer is what 01 asks of it, and no other is: its number is the one that is given, and fixes its value.
-- Assumes nothing.
use Prim.Native.Nat.{ℕ}
use mathlib.Core.List.{List}
use mathlib.Core.Path.{◌≡◌, refl, sym, ◌∙◌}
use Rattle.numbers.specs.Least.{least_one}
use Rattle.numbers.proofs.Tests.{says_eq, by_test, by_says}
use Rattle.numbers.proofs.Chains.{answers, given_one}
use Rattle.lines.proofs.Enough.{panel_least}
use Rattle.answers.specs.declared.Answer.{Answer}
use Rattle.answers.proofs.Answers.{same_answer}
use Rattle.verdict.specs.Answers.{panel_checks, panel_refusal, panel_of, PanelAnswer}
use Rattle.verdict.proofs.Query.{sound_panel, in_panel}

module _ (f : List ℕ) (x y : ℕ) where
  pub panel_answer : PanelAnswer f x y (panel_of f x y)
  unfolding panel_of panel_refusal
  panel_answer =
      by_test (PanelAnswer f x y) (says_eq (panel_refusal f x y) 0)
      (λ z. let at = in_panel f (sym z) in
      record {
        given = (answers (sound_panel f x y) 0).0 z;
        refused = λ n. absurd (n refl);
        least = λ e. panel_least f x y at.accepted at.x_bay at.y_bay;
      })
      (λ n. record { given = (answers (sound_panel f x y) _).0 refl; refused = λ m. refl; least = λ e. absurd (n e) })

  pub panel_answer_one : {a b : Answer} → PanelAnswer f x y a → PanelAnswer f x y b → a ≡ b
  panel_answer_one {a} {b} p q =
      let e = given_one (panel_checks f x y) p.given q.given in
      same_answer a b e
      (by_says (says_eq a.refusal 0) (λ z. least_one (p.least z) (q.least (sym e ∙ z)))
      (λ n. p.refused n ∙ sym (q.refused (λ z. n (e ∙ z)))))
