-- The panel query: a panel that was asked for and is there; and what a query answers, refused or not.
-- Assumes nothing.
use Prim.Native.Nat.{ℕ, ◌≤◌}
use mathlib.Core.Bool.{true, false, cond}
use mathlib.Core.List.{List}
use mathlib.Core.Path.{◌≡◌, refl, sym}
use native.Mathlib.Omega.{arith}
use lib.Dec.{eqb}
use borrow.Author.Tests.{ne_eqb}
use Rattle.std.proofs.Common.{Ok, Err}
use Rattle.numbers.specs.Tests.{Says}
use Rattle.numbers.specs.Chains.{Holds, Sound}
use Rattle.numbers.specs.Chains.Sound.{done, ◌then◌}
use Rattle.numbers.proofs.Chains.{success, both_zero, stopped, went_on, ended, stands, decides, ◌before◌}
use Rattle.numbers.proofs.Tests.{says_lt, says_and}
use Rattle.answers.specs.declared.Refusal.{Refusal}
use Rattle.answers.specs.Answers.{answer, number, query_answer}
use Rattle.answers.proofs.Refusals.{positive}
use Rattle.plan.specs.declared.ways.Way.TheVariants.{X, Y}
use Rattle.plan.specs.Plan.{bays}
use Rattle.plan.proofs.Reading.{bays_most}
use Rattle.floor.specs.Refusal.{floor_checks, refusal}
use Rattle.floor.proofs.Meaning.{sound_floor}
use Rattle.verdict.specs.Asked.{InPanel}
use Rattle.verdict.specs.Answers.{has_panel, HasPanel, panel_checks, panel_refusal}

pub says_panel : (f : List ℕ) (x y : ℕ) → Says (has_panel f x y) (HasPanel f x y)
unfolding has_panel
says_panel f x y = says_and (says_lt x (bays f X)) (says_lt y (bays f Y))

pub sound_panel : (f : List ℕ) (x y : ℕ) → Sound (panel_checks f x y)
unfolding panel_checks
sound_panel f x y = sound_floor f before says_panel f x y then done

-- ---- as the code tries them

module _ (f : List ℕ) (x y : ℕ) where
  pub floor_refuses : (r : Refusal) → number r ≡ refusal f → number r ≡ panel_refusal f x y
  unfolding panel_refusal panel_checks refusal
  floor_refuses r e = stands (floor_checks f) _ e (λ z. omega (arith, positive r, z))

  pub no_panel : 0 ≡ refusal f → false ≡ has_panel f x y → 10 ≡ panel_refusal f x y
  unfolding panel_refusal panel_checks refusal
  no_panel z e = decides (sound_floor f) _ z refl (stopped 10 _ _ _ (sym e))

  pub panel_there : 0 ≡ refusal f → true ≡ has_panel f x y → 0 ≡ panel_refusal f x y
  unfolding panel_refusal panel_checks refusal
  panel_there z e = decides (sound_floor f) _ z refl (went_on 10 _ _ _ (sym e) ended)

-- "success is 0"
pub in_panel : (f : List ℕ) {x y : ℕ} → 0 ≡ panel_refusal f x y → InPanel f x y
unfolding panel_refusal panel_checks refusal Holds
in_panel f {x} {y} e =
    let h = both_zero (sound_floor f) _ (sym e) in
    let at = ((success (says_panel f x y then done)).0 h.1).0 in
    record { accepted = h.0; x_bay = at.0; y_bay = at.1 }

pub bays_few : {f : List ℕ} {x y : ℕ} → InPanel f x y → (x ≤ 12) × (y ≤ 12)
bays_few {f} p = (omega (arith, p.x_bay, bays_most f X), omega (arith, p.y_bay, bays_most f Y))

-- ---- what a query answers, of its number and what was asked

pub query_refused : (r : Refusal) {n : ℕ} (v : ℕ) → number r ≡ n → query_answer (Err r) ≡ cond (eqb n 0) (answer 0 v) (answer n 0)
query_refused r v e = rw (← e, ne_eqb (number r) 0 (λ z. omega (arith, positive r, z)))

pub query_answered : {n v w : ℕ} → 0 ≡ n → w ≡ v → query_answer (Ok w) ≡ cond (eqb n 0) (answer 0 v) (answer n 0)
query_answered e h = rw (← e, h)
