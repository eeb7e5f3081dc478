-- 02, Five: the width of a strip. "A strip width of 0 or less" is 0 here, because a difference of naturals stops at 0: nothing is left of the strip.
-- Assumes nothing.
use Rattle.std.specs.Prelude.{ℕ, ◌-◌, Bool, cond}
use Rattle.numbers.specs.Rounding.{up}

-- "less the beam's width on an inside line, less half of it, rounded up, on an outer line"
unfoldable pub beam_off : Bool → ℕ → ℕ
beam_off outer beam = cond outer (up beam 2) beam

-- "Column strip width is wc, less .."
unfoldable pub column_width : Bool → ℕ → ℕ → ℕ
column_width outer wc beam = wc - beam_off outer beam

-- "middle strip width is W less wc"
abbrev pub middle_width : ℕ → ℕ → ℕ
middle_width W wc = W - wc
