-- The table of a floor and its governing negatives, worked out afresh: "Verdict not 0: all of them are 0. Numbers past the table stay"; and what room
-- is asked for them.
-- Assumes nothing.
use Rattle.std.specs.Prelude.{ℕ, ◌*◌, ◌≤◌, Bool, cond, List, [], ◌∷◌, leb, length}
use Rattle.numbers.specs.Records.{written, every}
use Rattle.numbers.specs.Chains.{Chain, tried}
use Rattle.numbers.specs.Chains.Check.{◌unless◌says◌}
use Rattle.plan.specs.Plan.{bays_of}
use Rattle.limits.specs.Limits.{is_clear}
use Rattle.tables.specs.Width.{record_width}
use Rattle.tables.specs.Places.{record_count}
use Rattle.tables.specs.Blank.{zeros}
use Rattle.supports.specs.Governing.{support_width, support_count, governed}
use Rattle.frames.specs.Table.{record_at}
use Rattle.moments.specs.Lent.{Lent}

-- what record k holds
unfoldable pub right_record : List ℕ → ℕ → List ℕ
right_record f k = cond (is_clear f) (record_at f k) (zeros k)

-- the table of f in the slice t as lent
unfoldable pub fresh : List ℕ → List ℕ → List ℕ
fresh f t = written record_width every (right_record f) (record_count f) t

-- 02, One: the supports of f that s picks, from the table t, in the slice g; where the table is all zero, so are they
abbrev pub governing : List ℕ → (ℕ → Bool) → List ℕ → List ℕ → List ℕ
governing f s t g = governed (bays_of f) s t g

-- everything lent, worked out afresh: "Opening fills it with the table"
abbrev pub afresh : List ℕ → Lent → Lent
afresh f l = record { table = fresh f l.table; governing = governing f every (fresh f l.table) l.governing }

-- what is asked of what is lent: after 1 to 7, and in a change after 9 and 5 to 7 of the changed floor
unfoldable pub room_checks : List ℕ → Lent → Chain
room_checks f l =
    -- "lent table shorter than 16·((ny+1)nx+(nx+1)ny) numbers"
    8 unless leb (record_count f * record_width) (length l.table) says (record_count f * record_width ≤ length l.table)
    -- 02, One: "13, the slice is too short, tried right after 8"
    ∷ 13 unless leb (support_count (bays_of f) * support_width) (length l.governing) says (support_count (bays_of f) * support_width ≤ length l.governing)
    ∷ []

-- what is lent has room for what is written of floor f
pub record Lodged (f : List ℕ) (l : Lent) : Type 0 where
  pub table : record_count f * record_width ≤ length l.table
  pub governing : support_count (bays_of f) * support_width ≤ length l.governing

unfoldable pub room_refusal : List ℕ → Lent → ℕ
room_refusal f l = tried (room_checks f l)
