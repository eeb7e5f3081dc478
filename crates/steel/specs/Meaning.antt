-- What the call answers and leaves, in the words of 02: each record of the schedule, and each byte.
-- That the equations of `Schedule` say these statements, and that no second answer or buffer does, is proved in proofs/Meaning.
-- Assumes nothing.
use Rattle.std.specs.Prelude.{ℕ, ◌+◌, ◌*◌, ◌≤◌, ◌<◌, List, [], ◌∷◌, ◌++◌, ◌≡◌, length, get_or}
use Rattle.numbers.specs.Chains.{Chain, GivenBy}
use Rattle.numbers.specs.Chains.Check.{◌unless◌says◌}
use Rattle.floor.specs.Refusal.{floor_checks}
use Rattle.answers.specs.declared.Answer.{Answer}
use Rattle.limits.specs.Limits.{verdict, is_clear}
use Rattle.tables.specs.Places.{record_count}
use Rattle.bars.specs.declared.entry.Entry.{Entry}
use Rattle.bars.specs.Entries.{number_bytes, entry_numbers, four_bytes, eight_of}
use Rattle.frames.specs.Spans.{span_at}
use Rattle.steel.specs.declared.strip.Reinforcement.{Reinforcement}
use Rattle.steel.specs.Strips.{strips, section_of, strip_of, strip_width, strip_moment}
use Rattle.steel.specs.Barred.{StripSteel, query_in, AllBarred}
use Rattle.steel.specs.Schedule.{schedule_count, schedule_length, all_barred, schedule_checks}

abbrev pub steel_in : Entry → Reinforcement
steel_in e = record { area = e.area; diameter = e.diameter; spacing = e.spacing }

-- "record number in the table, section .., strip .., width, moment, area, bar diameter, spacing", for strip q of record k of the table
pub record EntrySays (f : List ℕ) (k q : ℕ) (e : Entry) : Type 0 where
  pub number : e.«record» ≡ k
  pub section : e.section ≡ section_of q
  pub strip : e.strip ≡ strip_of q
  pub width : e.width ≡ strip_width (span_at f k) q
  pub moment : e.moment ≡ strip_moment (span_at f k) q
  pub steel : StripSteel (query_in f k q) (steel_in e)

-- "in that order": where byte j of number n of that record stands
abbrev pub byte_at : ℕ → ℕ → ℕ → ℕ → ℕ
byte_at k q n j = ((k * strips + q) * entry_numbers + n) * number_bytes + j

-- the bytes of record e stand where its place is
abbrev pub WrittenAt : List ℕ → ℕ → ℕ → Entry → Type 0
WrittenAt t k q e = (n j : ℕ) → n < entry_numbers → j < number_bytes → get_or t (byte_at k q n j) 0 ≡ get_or (four_bytes (get_or (eight_of e) n 0)) j 0

-- the schedule of f in the buffer t as lent: every record in its place, and bytes past them stay
pub record ScheduleOf (f t after : List ℕ) : Type 0 where
  pub same_length : length after ≡ length t
  pub past : (i : ℕ) → schedule_length f ≤ i → get_or after i 0 ≡ get_or t i 0
  pub entries : (k q : ℕ) → k < record_count f → q < strips → (e : Entry) × EntrySays f k q e × WrittenAt after k q e

-- "A refused schedule writes nothing"
pub record ScheduleAnswer (f t : List ℕ) (a : Answer) (t' : List ℕ) : Type 0 where
  pub given : GivenBy (schedule_checks f (length t)) a.refusal
  pub refused : ¬ (a.refusal ≡ 0) → (a.value ≡ 0) × (t' ≡ t)
  pub written : a.refusal ≡ 0 → (a.value ≡ schedule_count f) × ScheduleOf f t t'

-- so many bytes always suffice (proofs/Meaning): a floor of 12 by 12 bays has 312 records in its table, six in its schedule for each
abbrev pub schedule_most : ℕ
schedule_most = 59904

-- and then the number is as if 15 were not tried
abbrev pub roomy_checks : List ℕ → Chain
roomy_checks f = floor_checks f ++ (16 unless is_clear f says (verdict f ≡ 0) ∷ 17 unless all_barred f says AllBarred f ∷ [])
