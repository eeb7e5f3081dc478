-- The ways `judge` ends: the held floor is refused, the change does not fit it, or the changed floor decides.
-- Assumes nothing.
use Prim.Native.Nat.{ℕ}
use mathlib.Core.Bool.{Bool, true, false}
use mathlib.Core.List.{List}
use mathlib.Core.Path.{◌≡◌, refl, sym, ◌∙◌}
use native.Mathlib.Omega.{arith}
use borrow.Author.Tests.{ne_eqb}
use Rattle.std.specs.Prelude.{Ok, Err}
use Rattle.numbers.proofs.Chains.{stopped, went_on, stands, decides}
use Rattle.answers.specs.declared.Refusal.{Refusal}
use Rattle.answers.specs.declared.Refusal.TheVariants.{NoChange}
use Rattle.answers.specs.Answers.{number}
use Rattle.answers.proofs.Refusals.{positive}
use Rattle.plan.specs.declared.read.Bays.{Bays}
use Rattle.plan.specs.Asked.{Sized}
use Rattle.plan.specs.Plan.{bays_of}
use Rattle.floor.specs.Refusal.{floor_checks, values_refusal, refusal}
use Rattle.floor.proofs.Meaning.{sound_floor}
use Rattle.changes.specs.Asked.{Indexed, Placed}
use Rattle.changes.specs.Change.{change_ok, change_place, changed}
use Rattle.changes.specs.Meaning.{Fitting}
use Rattle.changes.specs.Refusal.{change_checks, change_refusal, ruled, ruling}
use Rattle.changes.proofs.Meaning.{says_change}
use Rattle.changes.proofs.Placing.{indexed, placed}
use Rattle.changes.proofs.Given.{told}

module _ (f c : List ℕ) where
  refused : (e : Refusal) → number e ≡ change_refusal f c → ruled (Err e) ≡ ruling f c
  refused e h =
      told f c (number e) 0 (rw (ne_eqb (number e) 0 (λ z. omega (arith, positive e)))) h (λ z. absurd (omega (arith, positive e)))

  pub held_refused : (e : Refusal) → number e ≡ refusal f → ruled (Err e) ≡ ruling f c
  unfolding change_refusal change_checks refusal
  held_refused e h = refused e (stands (floor_checks f) _ h (λ z. omega (arith, positive e)))

  -- the plan's file g is the held floor
  module _ (z : 0 ≡ refusal f) {g : List ℕ} (same : g ≡ f) {b : Bays} (h : Sized g b) {ok : Bool} (eo : ok ≡ change_ok b c) where
    sized : Sized f b
    sized = rw same at h

    of_floor : ok ≡ change_ok (bays_of f) c
    of_floor = eo ∙ rw sized.is

    pub not_fitting : ok ≡ false → ruled (Err NoChange) ≡ ruling f c
    unfolding change_refusal change_checks refusal
    not_fitting t = refused NoChange (decides (sound_floor f) _ z refl (stopped 9 _ _ _ (sym of_floor ∙ t)))

    module _ (t : ok ≡ true) where
      fitting : Fitting f c
      fitting = (says_change f c).holds (sym of_floor ∙ t)

      pub may_place : Indexed b c
      may_place = indexed f c fitting sized

      pub is_placed : {q : ℕ} → q ≡ change_place b c → Placed g q c
      is_placed eq = rw same (placed f c (sym z) fitting sized eq)

      copy_number : {n : ℕ} → n ≡ values_refusal (changed g c) → n ≡ change_refusal f c
      unfolding change_refusal change_checks refusal values_refusal
      copy_number en = decides (sound_floor f) _ z refl (went_on 9 _ _ _ (sym of_floor ∙ t) (rw same at en))

      pub copy_refused : (e : Refusal) → number e ≡ values_refusal (changed g c) → ruled (Err e) ≡ ruling f c
      copy_refused e en = refused e (copy_number en)

      pub copy_passes : {q : ℕ} → q ≡ change_place b c → 0 ≡ values_refusal (changed g c) → ruled (Ok q) ≡ ruling f c
      copy_passes eq en = told f c 0 _ refl (copy_number en) (λ _. eq ∙ rw sized.is)
