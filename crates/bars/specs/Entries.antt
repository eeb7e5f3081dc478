-- 02, Five: "records of 32 bytes without a header, eight 32-bit numbers little-endian: record number in the table, section .., strip .., width, moment,
-- area, bar diameter, spacing".
-- Assumes nothing.
use Rattle.std.specs.Prelude.{ℕ, ◌-◌, ◌*◌, ◌/◌, ◌%◌, List, [], ◌∷◌, get_or}
use Rattle.bars.specs.declared.entry.Entry.{Entry}

-- how many bytes a number has, and how many numbers a record
abbrev pub number_bytes : ℕ
number_bytes = 4

abbrev pub entry_numbers : ℕ
entry_numbers = 8

-- "little-endian"
abbrev pub four_bytes : ℕ → List ℕ
four_bytes n = n % 256 ∷ n / 256 % 256 ∷ n / 65536 % 256 ∷ n / 16777216 % 256 ∷ []

abbrev pub eight_of : Entry → List ℕ
eight_of e =
    e.«record» ∷ e.section ∷ e.strip ∷ e.width ∷ e.moment ∷ e.area ∷ e.diameter ∷ e.spacing ∷ []

-- the bytes of number i of a schedule whose record k is e
abbrev pub entry_at : ℕ → Entry → ℕ → List ℕ
entry_at k e i = four_bytes (get_or (eight_of e) (i - k * entry_numbers) 0)
