-- 02, Five as amended by Six: the bar schedule of a floor, "from a floor alone".
-- Assumes nothing.
use Rattle.std.specs.Prelude.{ℕ, ◌*◌, ◌/◌, ◌≤◌, Bool, cond, List, [], ◌∷◌, ◌++◌, ◌≡◌, leb, eqb, length}
use Rattle.numbers.specs.Records.{written, every}
use Rattle.numbers.specs.Tests.{all}
use Rattle.numbers.specs.Chains.{Chain, tried}
use Rattle.numbers.specs.Chains.Check.{◌unless◌says◌}
use Rattle.floor.specs.Refusal.{floor_checks}
use Rattle.answers.specs.declared.Answer.{Answer}
use Rattle.answers.specs.Answers.{answer}
use Rattle.limits.specs.Limits.{verdict, is_clear}
use Rattle.tables.specs.Places.{record_count}
use Rattle.frames.specs.Spans.{span_at}
use Rattle.bars.specs.declared.entry.Entry.{Entry}
use Rattle.bars.specs.Entries.{number_bytes}
use Rattle.steel.specs.Strips.{strips, span_numbers, span_bytes, materials_of, entry_of, span_barred, strip_bytes}
use Rattle.steel.specs.Barred.{AllBarred}

-- "Every section of every span appears once for each strip": six records for a record of the table. How many there are is what a call that succeeds answers
abbrev pub schedule_count : List ℕ → ℕ
schedule_count f = record_count f * strips

-- of eight numbers each, of four bytes each
abbrev pub schedule_length : List ℕ → ℕ
schedule_length f = record_count f * span_bytes

-- the record for strip q of record k of the table
unfoldable pub entry_in : List ℕ → ℕ → ℕ → Entry
entry_in f k q = entry_of (span_at f k) (materials_of f) k q

-- every one has its bars
unfoldable pub all_barred : List ℕ → Bool
all_barred f = all (record_count f) (λ k. span_barred (span_at f k) (materials_of f) k)

-- the bytes of number i of the schedule
unfoldable pub schedule_bytes : List ℕ → ℕ → List ℕ
schedule_bytes f i = strip_bytes (span_at f (i / span_numbers)) (materials_of f) (i / span_numbers) i

-- the schedule in the buffer t as lent; bytes past it stay
unfoldable pub scheduled : List ℕ → List ℕ → List ℕ
scheduled f t = written number_bytes every (schedule_bytes f) (record_count f * span_numbers) t

-- ---- the answer

-- "Refusals: 15, schedule buffer too short; 16, verdict not 0; 17, a strip width of 0 or less, no steel area that fits, or no bar that allows a spacing.
-- Order: 1 to 7, 16, 15, 17." Of a buffer of n bytes.
unfoldable pub schedule_checks : List ℕ → ℕ → Chain
schedule_checks f n =
    floor_checks f
    ++ (16 unless is_clear f says (verdict f ≡ 0)
    ∷ 15 unless leb (schedule_length f) n says (schedule_length f ≤ n)
    ∷ 17 unless all_barred f says AllBarred f
    ∷ [])

unfoldable pub schedule_number : List ℕ → ℕ → ℕ
schedule_number f n = tried (schedule_checks f n)

unfoldable pub schedule_answer : List ℕ → ℕ → Answer
schedule_answer f n = cond (eqb (schedule_number f n) 0) (answer 0 (schedule_count f)) (answer (schedule_number f n) 0)

-- "A refused schedule writes nothing."
unfoldable pub schedule_left : List ℕ → List ℕ → List ℕ
schedule_left f t = cond (eqb (schedule_number f (length t)) 0) (scheduled f t) t

-- what the call promises, of floor f and buffer t: the answer, and the buffer afterwards
pub record Scheduled (f t : List ℕ) (a : Answer) (t' : List ℕ) : Type 0 where
  pub answer : a ≡ schedule_answer f (length t)
  pub schedule : t' ≡ schedule_left f t
