-- What a call answers, given its refusal number: "Success is 0."
-- Assumes nothing.
use Rattle.std.specs.Prelude.{ℕ, cond, eqb, Result, Ok, Err}
use Rattle.answers.specs.declared.Answer.{Answer}
use Rattle.answers.specs.declared.Refusal.{Refusal}
use Rattle.answers.specs.declared.Refusal.TheVariants.{Length, FirstRecord, RecordCount, NotAsListed, OutOfRange, ColumnTooWide, BeamLayout, TableRoom, NoChange, NoPanel, QueryOutOfRange, NoArea, GoverningRoom, ScheduleRoom, NotClear, NoBars, PlacesRoom}

abbrev pub answer : ℕ → ℕ → Answer
answer number value = record { refusal = number; value = value }

-- "A refused opening or change gives verdict 255, which no floor earns, so a refusal never reads as clear"
abbrev pub answered : ℕ → ℕ → Answer
answered number value = cond (eqb number 0) (answer 0 value) (answer number 255)

-- the numbers of 01's table, and of 02
abbrev pub number : Refusal → ℕ
number Length = 1
number FirstRecord = 2
number RecordCount = 3
number NotAsListed = 4
number OutOfRange = 5
number ColumnTooWide = 6
number BeamLayout = 7
number TableRoom = 8
number NoChange = 9
number NoPanel = 10
number QueryOutOfRange = 11
number NoArea = 12
number GoverningRoom = 13
number ScheduleRoom = 15
number NotClear = 16
number NoBars = 17
number PlacesRoom = 25

-- the number that an outcome has: "Success is 0."
abbrev pub number_of : {A : Type 0} → Result A Refusal → ℕ
number_of (Ok _) = 0
number_of (Err r) = number r

-- what C sees of an outcome: a refusal's number, and the value that goes with one, or 0 and what was asked
abbrev pub answer_or : ℕ → Result ℕ Refusal → Answer
answer_or refused (Ok v) = answer 0 v
answer_or refused (Err r) = answer (number r) refused

-- of an opening or change
abbrev pub verdict_answer : Result ℕ Refusal → Answer
verdict_answer = answer_or 255

-- and of a query: "refused queries answer 0 mm"; 0 mm² or no of the others
abbrev pub query_answer : Result ℕ Refusal → Answer
query_answer = answer_or 0
