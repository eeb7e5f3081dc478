-- The refusals of a change, "given exactly when": what 9 asks of a change, and how each number comes to be given.
-- That the code's tests and numbers are these, both ways, is proved in proofs/Meaning and proofs/Given.
-- Assumes nothing.
use Rattle.std.specs.Prelude.{ℕ, ◌<◌, List, ◌≡◌, length}
use Rattle.records.specs.Meaning.{Changeable, Zero}
use Rattle.plan.specs.Fields.{part_b, part_c, part_at}
use Rattle.plan.specs.Plan.{many}
use Rattle.floor.specs.Refusal.{refusal}
use Rattle.changes.specs.Change.{change_kind, change_index, changed}

-- 9 "a change is not 16 bytes, not of kind 3 or 5..9, has an index the floor lacks, or an unlisted field not zero": the change has none of these faults
pub record Fitting (f c : List ℕ) : Type 0 where
  pub full : length c ≡ 16
  pub kind : Changeable (change_kind c)
  pub index : change_index c < many f (change_kind c)
  pub zeros : Zero (change_kind c) (part_at c 0 part_b) (part_at c 0 part_c)

-- a change that is taken: none of the refusals of a change
pub record TakenChange (f c : List ℕ) : Type 0 where
  pub held : refusal f ≡ 0
  pub fits : Fitting f c
  pub left : refusal (changed f c) ≡ 0
