-- "The table has sixteen 32-bit numbers per span."
-- Assumes nothing.
use Rattle.std.specs.Prelude.{ℕ}

-- how many numbers a record has
abbrev pub record_width : ℕ
record_width = 16
