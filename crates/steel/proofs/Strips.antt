-- The steel of a strip is what 02 asks of it, and no other is.
--     steel_is      where `reinforcement_of` has bars
--     steel_some    where there is any, it is this one, so the test says whether there is (says_steel)
-- Assumes nothing.
use Prim.Native.Nat.{ℕ, ◌<◌}
use mathlib.Core.Bool.{not}
use mathlib.Core.Path.{◌≡◌, refl, sym, ap, subst, ◌∙◌}
use native.Mathlib.Decide.{ℕ_discrete}
use native.Mathlib.Omega.{arith}
use lib.Dec.{eqb}
use Rattle.numbers.specs.Tests.{Says}
use Rattle.numbers.proofs.Tests.{says_not, says_eq, says_as}
use Rattle.answers.specs.Answers.{answer}
use Rattle.answers.proofs.Answers.{same_answer}
use Rattle.bars.specs.Choice.{bars, bars_for}
use Rattle.bars.specs.Meaning.{Bar}
use Rattle.bars.specs.Meaning.Bar.{ten, twelve, sixteen}
use Rattle.bars.proofs.Chosen.{choice_is, chosen_one}
use Rattle.steel.specs.declared.query.Query.{Query}
use Rattle.steel.specs.declared.strip.Reinforcement.{Reinforcement}
use Rattle.steel.specs.Steel.{SteelAnswer, steel_of}
use Rattle.steel.specs.Strips.{laid, reinforcement_of}
use Rattle.steel.specs.Barred.{StripSteel}
use Rattle.steel.proofs.Answers.{steel_answer, steel_answer_one}
use Rattle.steel.proofs.Reinforced.{no_width, no_area, laid_is, reinforced}

thick : {d a : ℕ} → Bar d a → 0 < d
thick ten = omega arith
thick twelve = omega arith
thick sixteen = omega arith

module _ (q : Query) where
  pub steel_is : ¬ ((reinforcement_of q).diameter ≡ 0) → StripSteel q (reinforcement_of q)
  steel_is n =
      elim (ℕ_discrete q.b 0) [
        | yes z ↦ absurd (n (ap (λ (r : Reinforcement). r.diameter) (sym (no_width q z))))
        | no wide ↦
            elim (ℕ_discrete (steel_of q).refusal 0) [
              | no z ↦ absurd (n (ap (λ (r : Reinforcement). r.diameter) (sym (no_area q wide refl z))))
              | yes z ↦
                  let v = (steel_of q).value in
                  let b = bars_for q.b v q.t in
                  let e : laid v b ≡ reinforcement_of q = laid_is q wide refl z refl in
                  subst (StripSteel q) e
                  (record {
                    wide = omega (arith, wide);
                    area = subst (SteelAnswer q) (same_answer (steel_of q) (answer 0 v) z refl) (steel_answer q);
                    bars = (choice_is q.b v q.t (reinforced q refl z).area_least).chosen (λ y. n (sym (ap (λ (r : Reinforcement). r.diameter) e) ∙ y));
                  })
            ]
      ]

  pub steel_some : {r : Reinforcement} → StripSteel q r → r ≡ reinforcement_of q
  steel_some {r} h =
      let e : answer 0 r.area ≡ steel_of q = steel_answer_one q h.area (steel_answer q) in
      let pos = (reinforced q e refl).area_least in
      let c = choice_is q.b r.area q.t pos in
      let some : ¬ ((bars_for q.b r.area q.t).diameter ≡ 0) = λ z. c.none.0 z r.diameter h.bars.each h.bars.bar r.spacing h.bars.spacing.holds in
      let b : bars r.diameter r.spacing ≡ bars_for q.b r.area q.t = chosen_one h.bars (c.chosen some) in
      laid_is q (λ z. omega (arith, z, h.wide)) e refl b

  pub steel_one : {r s : Reinforcement} → StripSteel q r → StripSteel q s → r ≡ s
  steel_one h g = steel_some h ∙ sym (steel_some g)

  pub says_steel : Says (not (eqb (reinforcement_of q).diameter 0)) ((r : Reinforcement) × StripSteel q r)
  says_steel =
      says_as (λ n. (reinforcement_of q, steel_is n))
      (λ h z. let e = ap (λ (r : Reinforcement). r.diameter) (steel_some h.1) in omega (arith, thick h.1.bars.bar, e, z))
      (says_not (says_eq (reinforcement_of q).diameter 0))
