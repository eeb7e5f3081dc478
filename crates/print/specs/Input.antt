-- What is kept of the input. Input longer than any floor, of 3,584 bytes or more, is refused 1, 2 or 3 by its length modulo 16 and its first
-- record alone, so that 3,584 bytes and as many more as its length modulo 16 stand for it.
-- Assumes nothing.
use Rattle.std.specs.Prelude.{ℕ, ◌+◌, ◌%◌, ◌≤◌, ◌<◌, min, Bool, true, false, cond, List, ◌≡◌, ltb, eqb, Result, Ok, Err, length, take, get_or}
use Rattle.print.specs.declared.input.Got.{Got}
use Rattle.print.specs.declared.input.Input.{Input}

-- how many bytes stand for n of them
unfoldable pub stand_in : ℕ → ℕ
stand_in n = cond (ltb n 3584) n (3584 + n % 16)

-- the first n bytes of b stand for the input f
pub record Stands (f b : List ℕ) (n : ℕ) : Type 0 where
  pub many : n ≡ stand_in (length f)
  pub there : n ≤ length b
  pub same : (k : ℕ) → k < 3584 → k < length f → get_or b k 0 ≡ get_or f k 0

-- a read that answers an error failed
abbrev pub is_failed : {E : Type 0} → Result ℕ E → Bool
is_failed (Ok k) = false
is_failed (Err e) = true

-- how many bytes it gave, handed a buffer of `most` bytes
abbrev pub given : {E : Type 0} → Result ℕ E → ℕ → ℕ
given (Ok k) most = min k most
given (Err e) most = 0

-- what a read answered, handed a buffer of `most` bytes
abbrev pub got_of : {E : Type 0} → Result ℕ E → ℕ → Got
got_of answer most = record { bytes = given answer most; failed = is_failed answer }

-- what is known of the input after n bytes that stand for what was read before, and one more read: one that gives nothing is the last
abbrev pub after_read : ℕ → Got → Input
after_read n g = record { bytes = stand_in (n + g.bytes); ended = eqb g.bytes 0; failed = g.failed }

-- what one read leaves in a buffer, handed its bytes from `at` on, of which n came: those before `at` are as they were
pub record ReadOn (old : List ℕ) (at : ℕ) (new : List ℕ) (n : ℕ) : Type 0 where
  pub within : at + n ≤ length new
  pub before : take at new ≡ take at old
  pub same_length : length new ≡ length old

-- room behind the bytes that stand for any input
pub record Room (bytes : List ℕ) : Type 0 where
  pub size : length bytes ≡ 65536
