-- What each function promises, and what it asks for: text written at a place of a lent buffer, and the room that it takes.
-- Assumes nothing.
use Rattle.std.specs.Prelude.{◌≡◌, List, ◌++◌, ℕ, ◌+◌, ◌*◌, ◌≤◌, length, take, drop}

-- new is old with the text at `at`, all other bytes as they were, and the text ends at r
pub record Wrote (old : List ℕ) (at : ℕ) (text new : List ℕ) (r : ℕ) : Type 0 where
  pub ends : r ≡ at + length text
  pub whole : new ≡ take at old ++ text ++ drop r old
  pub same_length : length new ≡ length old

-- count records of width numbers lie in the table from `from` on, and have room in out from `at` on:
-- a number takes at most ten bytes, and the space or newline beside it one
pub record Room (table : List ℕ) (from width count : ℕ) (out : List ℕ) (at : ℕ) : Type 0 where
  pub some : 1 ≤ width
  pub held : from + count * width ≤ length table
  pub room : at + 11 * (count * width) ≤ length out

-- room for a line of two numbers
pub record Line (out : List ℕ) : Type 0 where
  pub room : 22 ≤ length out
