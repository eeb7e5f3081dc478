-- "Equality always passes", and the figures of 01 for it: "Neighbours 6,000 and 4,000 pass, 3,980 breaks. Offset 600 on 6,000 passes,
-- 601 breaks. L = 2D passes." What a limit adds to the verdict at its edge, and one step past it.
-- Assumes nothing.
use Rattle.std.specs.Prelude.{List, [], ◌∷◌}
use Rattle.numbers.specs.Figures.{Figure, figure}
use Rattle.limits.specs.Limits.{slender, unlike, exceeds, overloaded, unequal, thinner, bit}

abbrev pub edges : List Figure
edges =
    figure "2: 6,000 by 3,000" (bit (slender 6000 3000) 2) 0
    ∷ figure "2: 6,020 by 3,000" (bit (slender 6020 3000) 2) 2
    ∷ figure "2: 3,000 by 6,020" (bit (slender 3000 6020) 2) 2
    ∷ figure "4: neighbours 6,000 and 4,000" (bit (unlike 6000 4000) 4) 0
    ∷ figure "4: neighbours 4,000 and 6,000" (bit (unlike 4000 6000) 4) 0
    ∷ figure "4: neighbours 6,000 and 3,980" (bit (unlike 6000 3980) 4) 4
    ∷ figure "8: offset 600 on 6,000" (bit (exceeds 600 6000) 8) 0
    ∷ figure "8: offset 601 on 6,000" (bit (exceeds 601 6000) 8) 8
    ∷ figure "16: D 5,000, L 10,000" (bit (overloaded 5000 10000) 16) 0
    ∷ figure "16: D 5,000, L 10,001" (bit (overloaded 5000 10001) 16) 16
    ∷ figure "32: p = 5q" (bit (unequal 50000 10000) 32) 0
    ∷ figure "32: q = 5p" (bit (unequal 10000 50000) 32) 0
    ∷ figure "32: p = 5q + 1" (bit (unequal 50001 10000) 32) 32
    ∷ figure "32: q = 5p + 1" (bit (unequal 10000 50001) 32) 32
    ∷ figure "64: t equal to a panel's least" (bit (thinner 147 147) 64) 0
    ∷ figure "64: t one below it" (bit (thinner 146 147) 64) 64
    ∷ []
