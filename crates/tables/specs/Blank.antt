-- "Verdict not 0: all of them are 0."
-- Assumes nothing.
use Rattle.std.specs.Prelude.{ℕ, List, replicate}
use Rattle.numbers.specs.Records.{written, every}
use Rattle.tables.specs.Width.{record_width}

abbrev pub zeros : ℕ → List ℕ
zeros k = replicate record_width 0

-- the table with n records of zeros
unfoldable pub blanked : ℕ → List ℕ → List ℕ
blanked n t = written record_width every zeros n t
