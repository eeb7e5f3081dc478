-- What opening and a change answer and leave, in the words of 01: each number's cause, and the table number by number.
-- That the equations of `Opening` and `Changing` say these statements, and that no second answer, table or slice does, is proved in proofs/Meaning.
-- Assumes nothing.
use Rattle.std.specs.Prelude.{ℕ, ◌+◌, ◌*◌, ◌≤◌, ◌<◌, cond, List, ◌↔◌, ◌≡◌, length, get_or}
use Rattle.numbers.specs.Chains.{GivenBy}
use Rattle.changes.specs.Change.{change_kind, change_index, changed}
use Rattle.answers.specs.declared.Answer.{Answer}
use Rattle.limits.specs.Meaning.{Broken, Clear}
use Rattle.spans.specs.Record.{record_of}
use Rattle.spans.specs.Meaning.{unrestrained}
use Rattle.tables.specs.Width.{record_width}
use Rattle.plan.specs.Plan.{bays_of}
use Rattle.tables.specs.Places.{Place, InsideOf, Inside, number_of, record_count}
use Rattle.tables.specs.Meaning.{Names}
use Rattle.supports.specs.Governing.{support_width, supports_of, last_of, support_count, support_number}
use Rattle.supports.specs.Governing.{support_in}
use Rattle.supports.specs.Meaning as supports
use Rattle.supports.specs.Meaning.{Beside}
use Rattle.frames.specs.Table.{view_in}
use Rattle.moments.specs.Lent.{Lent}
use Rattle.moments.specs.Opening.{open_checks}
use Rattle.moments.specs.Changing.{changing_checks}

-- "Opening a floor tries 1 to 8"; 02, One: "13 .. tried right after 8"
abbrev pub GivenOpening : List ℕ → Lent → ℕ → Type 0
GivenOpening f l = GivenBy (open_checks f l)

-- "A change tries 1 to 7 on the held floor, 9, then 5 to 7 on the changed floor, then 8", and 13
abbrev pub GivenChanging : List ℕ → Lent → List ℕ → ℕ → Type 0
GivenChanging f l c = GivenBy (changing_checks f l c)

-- number n of the record of span p
abbrev pub number_in : List ℕ → List ℕ → Place → ℕ → ℕ
number_in f t p n = get_or t (number_of f p * record_width + n) 0

-- its right value
abbrev pub right_number : List ℕ → Place → ℕ → ℕ
right_number f p n = get_or (record_of (view_in f p)) n 0

-- the table of f in the slice t as lent: "Verdict not 0: all of them are 0. Numbers past the table stay"
pub record TableOf (f t after : List ℕ) : Type 0 where
  pub same_length : length after ≡ length t
  pub past : (i : ℕ) → record_count f * record_width ≤ i → get_or after i 0 ≡ get_or t i 0
  pub stands : Clear f → (p : Place) → Inside f p → (n : ℕ) → n < record_width → number_in f after p n ≡ right_number f p n
  pub broken : ¬ Clear f → (p : Place) → Inside f p → (n : ℕ) → n < record_width → number_in f after p n ≡ 0

-- a record's sections are low end, between, high end; section j starts with its total, and column, middle, beam and slab follow
abbrev pub section_at : ℕ → ℕ
section_at j = 1 + 5 * j

-- "the three add up to their section exactly": middle, beam and slab of every section of every span; and "Negatives plus twice the positive
-- make 200·Mo, but 201·Mo in an unrestrained end span"
pub record AddsUp (f t : List ℕ) (p : Place) : Type 0 where
  pub whole : (j : ℕ) → j < 3
      → number_in f t p (section_at j + 2) + number_in f t p (section_at j + 3) + number_in f t p (section_at j + 4) ≡ number_in f t p (section_at j)
  pub balance : number_in f t p (section_at 0) + number_in f t p (section_at 2) + 2 * number_in f t p (section_at 1)
      ≡ cond (unrestrained (view_in f p).low) 201 (cond (unrestrained (view_in f p).high) 201 200) * number_in f t p 0

-- of a table t that is lent, right or wrong: "the records named here get their right value and every other keeps what it held, right or not"
pub record NamedOf (f : List ℕ) (kind index : ℕ) (t after : List ℕ) : Type 0 where
  pub same_length : length after ≡ length t
  pub past : (i : ℕ) → record_count f * record_width ≤ i → get_or after i 0 ≡ get_or t i 0
  pub named : (p : Place) → Inside f p → Names f kind index p → (n : ℕ) → n < record_width → number_in f after p n ≡ right_number f p n
  pub others : (p : Place) → Inside f p → ¬ Names f kind index p → (n : ℕ) → n < record_width → number_in f after p n ≡ number_in f t p n

-- ---- 02, One: the governing negatives beside the table

-- number n of support p, of floor f, in the slice g; and what it is by the table t, right or wrong
abbrev pub governing_in : List ℕ → List ℕ → Place → ℕ → ℕ
governing_in f g p n = get_or g (support_number (bays_of f) p * support_width + n) 0

abbrev pub by_table : List ℕ → List ℕ → Place → ℕ → ℕ
by_table f t p n = get_or (support_in (bays_of f) t p) n 0

-- a support that the floor has
abbrev pub Supported : List ℕ → Place → Type 0
Supported f p = InsideOf (supports_of (bays_of f)) (last_of (bays_of f)) p

-- the slice agrees with the table, support by support
abbrev pub Agrees : List ℕ → Lent → Type 0
Agrees f l = supports.Agrees (bays_of f) l.table l.governing

-- "Opening fills it with the table"; numbers past it stay
pub record GoverningOf (f : List ℕ) (l l' : Lent) : Type 0 where
  pub same_length : length l'.governing ≡ length l.governing
  pub past : (i : ℕ) → support_count (bays_of f) * support_width ≤ i → get_or l'.governing i 0 ≡ get_or l.governing i 0
  pub agrees : Agrees f l'

-- "only supports next to a written record are written, from the table as it then stands"
pub record GoverningNamed (f : List ℕ) (kind index : ℕ) (l l' : Lent) : Type 0 where
  pub same_length : length l'.governing ≡ length l.governing
  pub past : (i : ℕ) → support_count (bays_of f) * support_width ≤ i → get_or l'.governing i 0 ≡ get_or l.governing i 0
  pub beside : (p : Place) → Supported f p → Beside f kind index p → (n : ℕ) → n < support_width → governing_in f l'.governing p n ≡ by_table f l'.table p n
  pub others : (p : Place) → Supported f p → ¬ Beside f kind index p → (n : ℕ) → n < support_width → governing_in f l'.governing p n ≡ governing_in f l.governing p n

-- everything lent: filled for floor f; or with what a change of this kind and index names
pub record LentOf (f : List ℕ) (l l' : Lent) : Type 0 where
  pub table : TableOf f l.table l'.table
  pub governing : GoverningOf f l l'

pub record LentNamed (f : List ℕ) (kind index : ℕ) (l l' : Lent) : Type 0 where
  pub table : NamedOf f kind index l.table l'.table
  pub governing : GoverningNamed f kind index l l'

-- "A refused opening or change gives verdict 255"; else the verdict names exactly what is broken in floor g
pub record Judged (g : List ℕ) (number : ℕ) (a : Answer) : Type 0 where
  pub refusal : a.refusal ≡ number
  pub refused : ¬ (number ≡ 0) → a.value ≡ 255
  pub verdict : number ≡ 0 → Broken g a.value

-- ".. which no floor earns, so a refusal never reads as clear"
abbrev pub Earned : Answer → Type 0
Earned a = (a.value ≡ 255) ↔ ¬ (a.refusal ≡ 0)

-- opening: "Refusals write nothing"
pub record OpeningSays (f : List ℕ) (l : Lent) (a : Answer) (l' : Lent) : Type 0 where
  pub number : ℕ
  pub given : GivenOpening f l number
  pub answer : Judged f number a
  pub refused : ¬ (number ≡ 0) → l' ≡ l
  pub filled : number ≡ 0 → LentOf f l l'

-- a change: "If the verdict before or after is not 0, the whole table is written. Otherwise the records named here"
pub record ChangeSays (f : List ℕ) (l : Lent) (c : List ℕ) (a : Answer) (f' : List ℕ) (l' : Lent) : Type 0 where
  pub number : ℕ
  pub given : GivenChanging f l c number
  pub answer : Judged (changed f c) number a
  pub refused : ¬ (number ≡ 0) → (f' ≡ f) × (l' ≡ l)
  pub taken : number ≡ 0 → f' ≡ changed f c
  pub whole : number ≡ 0 → ¬ (Clear f × Clear (changed f c)) → LentOf (changed f c) l l'
  pub some : number ≡ 0 → Clear f → Clear (changed f c) → LentNamed (changed f c) (change_kind c) (change_index c) l l'
