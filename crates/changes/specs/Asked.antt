-- What functions of this crate ask of their callers. A reader who only wants to know what the program does need not read this file.
-- Assumes nothing.
use Rattle.std.specs.Prelude.{ℕ, ◌≤◌, ◌<◌, List, ◌≡◌}
use Rattle.plan.specs.declared.read.Bays.{Bays}
use Rattle.plan.specs.Plan.{bays_of}
use Rattle.floor.specs.Refusal.{refusal}
use Rattle.changes.specs.Change.{change_kind, change_index, change_place}
use Rattle.changes.specs.Meaning.{Fitting}

-- c names a record by kind and index, and the bays are few
pub record Indexed (b : Bays) (c : List ℕ) : Type 0 where
  pub x : b.x ≤ 12
  pub y : b.y ≤ 12
  pub kind : change_kind c ≤ 9
  pub index : change_index c < 169

-- c fits the accepted floor f, of which it replaces record q
pub record Placed (f : List ℕ) (q : ℕ) (c : List ℕ) : Type 0 where
  pub held : refusal f ≡ 0
  pub fits : Fitting f c
  pub is : q ≡ change_place (bays_of f) c
