-- "each with theirs, ours, the difference": the line that is printed of a figure.
-- Assumes nothing.
use Rattle.std.specs.Prelude.{ℕ, Bool, cond, List, [], ◌∷◌, ◌++◌}
use Rattle.std.specs.Fmt.{decimal}
use Rattle.figures.specs.Comparison.{off_by, within}

-- a number, and a space
abbrev pub number_text : ℕ → List ℕ
number_text n = decimal n ++ (32 ∷ [])

-- "within" or "beyond", and a newline
abbrev pub word_text : Bool → List ℕ
word_text w = cond w (119 ∷ 105 ∷ 116 ∷ 104 ∷ 105 ∷ 110 ∷ 10 ∷ []) (98 ∷ 101 ∷ 121 ∷ 111 ∷ 110 ∷ 100 ∷ 10 ∷ [])

-- the figure's number, theirs, ours, how far ours lies from theirs, and whether that is within one percent
unfoldable pub figure_line : ℕ → ℕ → ℕ → List ℕ
figure_line number theirs ours =
    number_text number ++ (number_text theirs ++ (number_text ours ++ (number_text (off_by theirs ours) ++ word_text (within (off_by theirs ours)))))
