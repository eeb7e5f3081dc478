-- A sheet in pieces of whole lines. How many lines a piece has is a matter of speed: they fit a buffer of 65,536 bytes.
-- Assumes nothing.
use Rattle.std.specs.Prelude.{ℕ, ◌+◌, ◌*◌, ◌/◌, ◌≤◌, Bool, true, false, cond, List, ◌≡◌, ltb, Result, Ok, Err, length}
use Rattle.sheets.specs.declared.pieces.CutOff.{CutOff}

-- how many records of w numbers come next, where `left` are left: 5,957 numbers take at most 65,527 bytes
unfoldable pub piece : ℕ → ℕ → ℕ
piece w left = cond (ltb left (5957 / w)) left (5957 / w)

-- count records of width numbers from record `first` on lie in the table, and their text in the buffer
pub record Piece (table : List ℕ) (width first count : ℕ) : Type 0 where
  pub some : 1 ≤ width
  pub held : first * width + count * width ≤ length table
  pub fits : count * width ≤ 5957

-- the first count records lie in the table, a record's text fits the buffer, and the bytes of all can be counted
pub record Sheet (table : List ℕ) (width count : ℕ) : Type 0 where
  pub some : 1 ≤ width
  pub fits : width ≤ 5957
  pub held : count * width ≤ length table
  pub countable : length table ≤ 4294967296

-- what went to a writer: whether every write took all that it was handed, and how many bytes those were
pub record Sent : Type 0 where
  pub whole : Bool
  pub bytes : ℕ

-- that, as a function answers it
abbrev pub sent : Result ℕ CutOff → Sent
sent (Ok n) = record { whole = true; bytes = n }
sent (Err e) = record { whole = false; bytes = e.bytes }

-- where all of it was taken, what was sent has as many bytes as the text
pub record Printed (text : List ℕ) (r : Sent) : Type 0 where
  pub all : r.whole ≡ true → r.bytes ≡ length text
