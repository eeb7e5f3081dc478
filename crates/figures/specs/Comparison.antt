-- "within one percent of the printed figures"
-- Assumes nothing.
use Rattle.std.specs.Prelude.{ℕ, ◌-◌, ◌*◌, ◌≤◌, min, max, Bool, leb}
use Rattle.numbers.specs.Rounding.{up}

abbrev pub apart : ℕ → ℕ → ℕ
apart theirs ours = max theirs ours - min theirs ours

-- how far ours lies from theirs, in hundredths of a percent of theirs, rounded up; where theirs is 0, of 1
abbrev pub off_by : ℕ → ℕ → ℕ
off_by theirs ours = up (10000 * apart theirs ours) (max theirs 1)

abbrev pub within : ℕ → Bool
within off = leb off 100

-- what that says of a figure that is not 0
abbrev pub OnePercent : ℕ → ℕ → Type 0
OnePercent theirs ours = 100 * apart theirs ours ≤ theirs
