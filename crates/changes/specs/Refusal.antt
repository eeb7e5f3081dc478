-- The refusals of a change: "A change tries 1 to 7 on the held floor, 9, then 5 to 7 on the changed floor, then 8". 8, of the lent table,
-- is tried after these by the layer that has the table.
-- Assumes nothing.
use Rattle.std.specs.Prelude.{ℕ, cond, List, ◌∷◌, ◌++◌, eqb, Result, Ok, Err}
use Rattle.numbers.specs.Chains.{Chain, tried, GivenBy}
use Rattle.numbers.specs.Chains.Check.{◌unless◌says◌}
use Rattle.answers.specs.declared.Refusal.{Refusal}
use Rattle.answers.specs.Answers.{number}
use Rattle.floor.specs.Refusal.{floor_checks, value_checks}
use Rattle.plan.specs.Plan.{bays_of}
use Rattle.changes.specs.Change.{change_ok, change_place, changed}
use Rattle.changes.specs.Meaning.{Fitting}

unfoldable pub change_checks : List ℕ → List ℕ → Chain
change_checks f c = floor_checks f ++ 9 unless change_ok (bays_of f) c says Fitting f c ∷ value_checks (changed f c)

unfoldable pub change_refusal : List ℕ → List ℕ → ℕ
change_refusal f c = tried (change_checks f c)

abbrev pub GivenChange : ℕ → List ℕ → List ℕ → Type 0
GivenChange n f c = GivenBy (change_checks f c) n

-- a change judged: its number and the record that it replaces; "a place or position that a call reports is 0 wherever none is named"
pub record Ruling : Type 0 where
  pub number : ℕ
  pub place : ℕ

abbrev pub ruling_of : ℕ → ℕ → Ruling
ruling_of number place = record { number = number; place = cond (eqb number 0) place 0 }

unfoldable pub ruling : List ℕ → List ℕ → Ruling
ruling f c = ruling_of (change_refusal f c) (change_place (bays_of f) c)

-- the ruling that the code's outcome tells: the place, or why there is none
abbrev pub ruled : Result ℕ Refusal → Ruling
ruled (Ok place) = record { number = 0; place = place }
ruled (Err r) = record { number = number r; place = 0 }
