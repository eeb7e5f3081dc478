-- "Line stiffness", of a line, and the lengths across it that "Moments" adds.
-- `below` and `above` are the spans on the line's low and high side, 0 past an outer line; `column` is the column's side across the frame.
-- Assumes nothing.
use Rattle.std.specs.Prelude.{ℕ, ◌+◌, ◌*◌, ◌/◌, min, Bool, cond}
use Rattle.stiffness.specs.Sections.{cube, of_beam, overhang, flanged_inertia}

-- the column across, of which a frame has half past an outer line
abbrev pub past : Bool → ℕ → ℕ
past outer column = cond outer column 0

-- "Frame width W: inside, half of each adjoining span; on an outer line half the span plus half the column across"
unfoldable pub frame_width : Bool → ℕ → ℕ → ℕ → ℕ
frame_width outer below above column = (below + above + past outer column) / 2

-- "α is in ten-thousandths, rounded down"; "0 without a beam"; 02, Two: "α becomes 10000 times that over W·t³, rounded down"
unfoldable pub alpha : Bool → ℕ → ℕ → ℕ → ℕ → ℕ
alpha outer b h W t = of_beam b (10000 * flanged_inertia b h (overhang outer h t) t / (W * cube t))

-- "l2 is the mean of adjoining spans inside and the whole panel span on an outer line"
unfoldable pub transverse_span : Bool → ℕ → ℕ → ℕ
transverse_span outer below above = cond outer (below + above) ((below + above) / 2)

-- "wc is, on each side of the line, a quarter of min(l1, span on that side); past an outer line, half the column"
unfoldable pub column_strip_width : Bool → ℕ → ℕ → ℕ → ℕ → ℕ
column_strip_width outer l1 below above column = min l1 below / 4 + min l1 above / 4 + past outer column / 2
