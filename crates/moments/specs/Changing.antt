-- A change to a floor that has a table and a governing slice: "A change tries 1 to 7 on the held floor, 9, then 5 to 7 on the changed floor, then 8", and
-- 13 (02, One); and "What a change may write".
-- Assumes nothing.
use Rattle.std.specs.Prelude.{ℕ, Bool, cond, ◌&&◌, List, ◌++◌, ◌≡◌, eqb}
use Rattle.numbers.specs.Chains.{Chain, tried}
use Rattle.numbers.specs.Records.{every}
use Rattle.changes.specs.Change.{change_kind, change_index, changed}
use Rattle.changes.specs.Refusal.{change_checks}
use Rattle.answers.specs.declared.Answer.{Answer}
use Rattle.answers.specs.Answers.{answered}
use Rattle.limits.specs.Limits.{verdict, is_clear}
use Rattle.plan.specs.Plan.{bays_of}
use Rattle.supports.specs.Beside.{beside_at}
use Rattle.frames.specs.Table.{named_written}
use Rattle.moments.specs.Lent.{Lent}
use Rattle.moments.specs.Tables.{fresh, governing, room_checks}

-- the refusal of change c
unfoldable pub changing_checks : List ℕ → Lent → List ℕ → Chain
changing_checks f l c = change_checks f c ++ room_checks f l

unfoldable pub change_number : List ℕ → Lent → List ℕ → ℕ
change_number f l c = tried (changing_checks f l c)

-- "If the verdict before or after is not 0, the whole table is written. Otherwise the records named here get their right value and every
-- other keeps what it held, right or not." To what is now floor f, by a change of this kind and index.
unfoldable pub rewritten : Bool → List ℕ → ℕ → ℕ → List ℕ → List ℕ
rewritten before f kind index t = cond (before && is_clear f) (named_written f kind index t) (fresh f t)

-- 02, One: "only supports next to a written record are written, from the table as it then stands", which is t
unfoldable pub regoverned : Bool → List ℕ → ℕ → ℕ → List ℕ → List ℕ → List ℕ
regoverned before f kind index t g = governing f (cond (before && is_clear f) (beside_at (bays_of f) kind index) every) t g

-- everything lent to what is now floor f, after a change of this kind and index
abbrev pub remade_of : Bool → List ℕ → ℕ → ℕ → Lent → Lent
remade_of before f kind index l =
    let t = rewritten before f kind index l.table in
    record { table = t; governing = regoverned before f kind index t l.governing }

-- after change c to floor f was stored
abbrev pub remade : List ℕ → List ℕ → Lent → Lent
remade f c l = remade_of (is_clear f) (changed f c) (change_kind c) (change_index c) l

-- what a change leaves of the floor and of what is lent; "Refusals write nothing"
abbrev pub floor_after : List ℕ → Lent → List ℕ → List ℕ
floor_after f l c = cond (eqb (change_number f l c) 0) (changed f c) f

abbrev pub lent_after : List ℕ → Lent → List ℕ → Lent
lent_after f l c = cond (eqb (change_number f l c) 0) (remade f c l) l

-- the answer, the floor and everything lent at exit
pub record Changed (f : List ℕ) (l : Lent) (c : List ℕ) (a : Answer) (f' : List ℕ) (l' : Lent) : Type 0 where
  pub answer : a ≡ answered (change_number f l c) (verdict (changed f c))
  pub floor : f' ≡ floor_after f l c
  pub lent : l' ≡ lent_after f l c
