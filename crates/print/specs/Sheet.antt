-- "It reads a floor from standard input and prints refusal number, a space, verdict; at verdict 0 then one line per record, sixteen numbers,
-- spaces between."
-- Assumes nothing.
use Rattle.std.specs.Prelude.{ℕ, ◌*◌, ◌≤◌, cond, List, [], ◌∷◌, ◌++◌, ◌≡◌, eqb, length, replicate}
use Rattle.sheets.specs.Text.{line, lines}
use Rattle.sheets.specs.Wrote.{Wrote}
use Rattle.answers.specs.declared.Answer.{Answer}
use Rattle.limits.specs.Limits.{verdict}
use Rattle.tables.specs.Width.{record_width}
use Rattle.tables.specs.Places.{record_count}
use Rattle.supports.specs.Governing.{support_width}
use Rattle.moments.specs.Lent.{Lent, lent}
use Rattle.moments.specs.Tables.{fresh}
use Rattle.moments.specs.Opening.{open_refusal, Opened}
use Rattle.answers.specs.Answers.{answered}
use Rattle.print.specs.declared.Start.{Start}

-- the answer of opening, with what is lent
abbrev pub answer_of : List ℕ → Lent → Answer
answer_of f l = answered (open_refusal f l) (verdict f)

abbrev pub first_line : List ℕ → Lent → List ℕ
first_line f l = line ((answer_of f l).refusal ∷ (answer_of f l).value ∷ [])

abbrev pub record_lines : List ℕ → Lent → List ℕ
record_lines f l = cond (eqb (answer_of f l).value 0) (lines record_width (record_count f) (fresh f l.table)) []

unfoldable pub sheet_text : List ℕ → Lent → List ℕ
sheet_text f l = first_line f l ++ record_lines f l

-- the first line is written at the start of out, what is lent is as opening leaves it, and the table's records follow where there are any to print
pub record Began (f : List ℕ) (l : Lent) (out : List ℕ) (r : Start) (l' : Lent) (out' : List ℕ) : Type 0 where
  pub first : Wrote out 0 (first_line f l) out' r.end
  pub opened : Opened f l (answer_of f l) l'
  pub follow : r.records ≡ cond (eqb (answer_of f l).value 0) (record_count f) 0
  pub most : r.records ≤ 312

-- room for the table of the largest floor, which has 312 records, and for its 338 supports
pub record Space (t g : List ℕ) : Type 0 where
  pub numbers : length t ≡ 312 * record_width
  pub supports : length g ≡ 338 * support_width

-- that room, as the program lends it
unfoldable pub blank : Lent
blank = lent (replicate (312 * record_width) 0) (replicate (338 * support_width) 0)
