-- A change's number is given exactly when GivenChange says so, and a change that is taken leaves an accepted floor and has its place there.
-- Assumes nothing.
use Prim.Native.Nat.{ℕ, zero, suc}
use mathlib.Core.List.{List}
use mathlib.Core.Logic.{◌↔◌}
use mathlib.Core.Path.{◌≡◌, refl, sym, ap, ◌∙◌}
use native.Mathlib.Omega.{arith}
use borrow.Author.Tests.{ne_eqb}
use Rattle.numbers.specs.Chains.{Holds, Sound}
use Rattle.numbers.specs.Chains.Sound.{done, ◌then◌}
use Rattle.numbers.proofs.Chains.{answers, success, later, both_zero, went_on, ◌before◌}
use Rattle.floor.specs.Refusal.{value_checks, values_refusal, refusal}
use Rattle.floor.proofs.Meaning.{sound_floor, sound_values}
use Rattle.plan.specs.Plan.{bays_of}
use Rattle.changes.specs.Asked.{Placed}
use Rattle.changes.specs.Change.{change_place, changed}
use Rattle.changes.specs.Meaning.{TakenChange}
use Rattle.changes.specs.Refusal.{Ruling, change_checks, change_refusal, GivenChange, ruling_of, ruling}
use Rattle.changes.proofs.Meaning.{says_change}
use Rattle.changes.proofs.Keeps.{values_decide}

pub sound_change : (f c : List ℕ) → Sound (change_checks f c)
unfolding change_checks
sound_change f c = sound_floor f before says_change f c then sound_values (changed f c)

pub given_change : (n : ℕ) (f c : List ℕ) → (change_refusal f c ≡ n) ↔ GivenChange n f c
unfolding change_refusal
given_change n f c = answers (sound_change f c) n

-- "success is 0"
pub taken : (f c : List ℕ) → (change_refusal f c ≡ 0) ↔ TakenChange f c
unfolding change_refusal change_checks refusal values_refusal Holds
taken f c = (parts, whole)
  where
    parts : change_refusal f c ≡ 0 → TakenChange f c
    parts e =
        let h = both_zero (sound_floor f) _ e in
        let v = both_zero (says_change f c then done) (value_checks (changed f c)) h.1 in
        let fit = ((success (says_change f c then done)).0 v.0).0 in
        record { held = h.0; fits = fit; left = values_decide f c h.0 fit ∙ v.1 }

    whole : TakenChange f c → change_refusal f c ≡ 0
    whole t =
        later (sound_floor f) _ t.held
        ∙ sym (went_on 9 _ _ (value_checks (changed f c)) ((says_change f c).passes t.fits) (sym t.left ∙ values_decide f c t.held t.fits))

pub keeps : (f c : List ℕ) → change_refusal f c ≡ 0 → refusal (changed f c) ≡ 0
keeps f c e = ((taken f c).0 e).left

-- ---- the ruling on a change

-- as the code tells it: with a number, and with the place where that is 0
pub told : (f c : List ℕ) {r : Ruling} (number place : ℕ) → r ≡ ruling_of number place → number ≡ change_refusal f c
    → (number ≡ 0 → place ≡ change_place (bays_of f) c) → r ≡ ruling f c
unfolding ruling
told f c zero place er en ep = er ∙ rw (← en, ep refl)
told f c (suc n) place er en ep = er ∙ rw (← en, ne_eqb (suc n) 0 (λ z. omega arith))

pub number_ruled : (f c : List ℕ) {r : Ruling} → r ≡ ruling f c → r.number ≡ change_refusal f c
unfolding ruling
number_ruled f c e = ap (λ (j : Ruling). j.number) e

-- a change that is not refused may be stored
pub stores : (f c : List ℕ) {r : Ruling} → r ≡ ruling f c → r.number ≡ 0 → Placed f r.place c
unfolding ruling
stores f c {r} e z =
    let n : change_refusal f c ≡ 0 = sym (number_ruled f c e) ∙ z in
    let p : r.place ≡ change_place (bays_of f) c = ap (λ (j : Ruling). j.place) e ∙ rw n in
    let t = (taken f c).0 n in
    record { held = t.held; fits = t.fits; is = p }
