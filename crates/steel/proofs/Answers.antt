-- The answer of a query is what 01 asks of it, and no other is.
--     outside, none, least      the three answers, over any question "the least As with P, where Ok"
--     answered_one              no second answer, over any such question: the refusal number says which case it is
--     answer_within             the search's answer is one, over any limits
--     steel_answer              so `steel_of` is the answer of a query
--     steel_answer_one          and the only one
-- Assumes nothing.
use Prim.Native.Nat.{ℕ}
use mathlib.Core.Logic.{◌↔◌}
use mathlib.Core.Path.{◌≡◌, refl, ◌∙◌}
use native.Mathlib.Decide.{ℕ_discrete}
use native.Mathlib.Omega.{arith}
use Rattle.numbers.specs.Least.{Least, least_one}
use Rattle.numbers.proofs.Tests.{says_lt, by_test}
use Rattle.answers.specs.declared.Answer.{Answer}
use Rattle.answers.specs.Answers.{answer}
use Rattle.answers.proofs.Answers.{same_answer}
use Rattle.steel.specs.declared.query.Query.{Query}
use Rattle.steel.specs.declared.search.Limits.{Limits}
use Rattle.steel.specs.Asked.{Searchable}
use Rattle.steel.specs.Answered.{Answered}
use Rattle.steel.specs.Search.{Within, first_within, least_within}
use Rattle.steel.specs.Steel.{SteelAnswer, steel_of}
use Rattle.steel.proofs.Ranges.{says_in_range}
use Rattle.steel.proofs.Within.{least_within_lem, none_within}
use Rattle.steel.proofs.Bounds.{fits_within, searchable}

module _ {Ok : Type 0} {P : ℕ → Type 0} where
  outside : ¬ Ok → Answered Ok P (answer 11 0)
  outside n =
      record {
        outside = (λ e. n, λ m. refl);
        none = (λ e. absurd (omega arith), λ h. absurd (n h.0));
        found = (λ e. absurd (omega arith), λ h. absurd (n h.0));
        least = λ e. absurd (omega arith);
        refused = λ m. refl;
      }

  none : Ok → ((As : ℕ) → ¬ P As) → Answered Ok P (answer 12 0)
  none k n =
      record {
        outside = (λ e. absurd (omega arith), λ m. absurd (m k));
        none = (λ e. (k, n), λ h. refl);
        found = (λ e. absurd (omega arith), λ h. absurd (n h.1.0 h.1.1));
        least = λ e. absurd (omega arith);
        refused = λ m. refl;
      }

  least : {As : ℕ} → Ok → Least P As → Answered Ok P (answer 0 As)
  least {As} k h =
      record {
        outside = (λ e. absurd (omega arith), λ m. absurd (m k));
        none = (λ e. absurd (omega arith), λ n. absurd (n.1 As h.holds));
        found = (λ e. (k, (As, h.holds)), λ g. refl);
        least = λ e. h;
        refused = λ m. absurd (m refl);
      }

  pub answered_one : {a b : Answer} → Answered Ok P a → Answered Ok P b → a ≡ b
  answered_one {a} {b} p q =
      elim (ℕ_discrete a.refusal 0) [
        | yes z ↦ let y = q.found.1 (p.found.0 z) in same_answer a b (cc) (least_one (p.least z) (q.least y))
        | no z ↦
            let e : a.refusal ≡ b.refusal =
            elim (ℕ_discrete a.refusal 11) [
              | yes o ↦ cc (q.outside.1 (p.outside.0 o))
              | no o ↦
                  elim (ℕ_discrete a.refusal 12) [
                    | yes n ↦ cc (q.none.1 (p.none.0 n))
                    | no n ↦ absurd (o (p.outside.1 (λ k. n (p.none.1 (k, λ As m. z (p.found.1 (k, (As, m))))))))
                  ]
            ] in
            let f = p.refused z in let g = q.refused (λ y. z (e ∙ y)) in same_answer a b e (cc)
      ]

  -- over any limits that P comes to
  pub answer_within : {l : Limits} → Searchable l → ((As : ℕ) → P As ↔ Within l As) → Ok → Answered Ok P (least_within l)
  unfolding least_within
  answer_within {l} s same k =
      by_test (Answered Ok P) (says_lt l.most (first_within l))
      (λ h. none k (λ As p. none_within s h As ((same As).0 p)))
      (λ h. let w = least_within_lem s (omega (arith, h)) in
      least k (record { holds = (same _).1 w.holds; first = λ As p. w.first As ((same As).0 p) }))

module _ (q : Query) where
  pub steel_answer : SteelAnswer q (steel_of q)
  unfolding steel_of
  steel_answer = by_test (SteelAnswer q) (says_in_range q) (λ r. answer_within (searchable r) (fits_within r) r) outside

  pub steel_answer_one : {a b : Answer} → SteelAnswer q a → SteelAnswer q b → a ≡ b
  steel_answer_one = answered_one
