-- "Four numbers for each place: the limit (1, 2, 4, .. 64), a direction (0 x, 1 y, 0 where the limit has none), i, j": what a slice has of a list of places.
-- Assumes nothing.
use Rattle.std.specs.Prelude.{ℕ, ◌*◌, List, [], ◌∷◌, ◌++◌, length, drop}
use Rattle.plan.specs.Ways.{pick}
use Rattle.limits.specs.Meaning.{number}
use Rattle.broken.specs.declared.Place.{Place}

abbrev pub place_width : ℕ
place_width = 4

abbrev pub four_of : Place → List ℕ
four_of p = number p.limit ∷ pick p.way 0 1 ∷ p.i ∷ p.j ∷ []

unfoldable pub numbers_of : List Place → List ℕ
numbers_of [] = []
numbers_of (p ∷ ps) = four_of p ++ numbers_of ps

-- a slice that has the places' numbers at its start; "what lies past the places stays"
abbrev pub listed_in : List Place → List ℕ → List ℕ
listed_in ps t = numbers_of ps ++ drop (length ps * place_width) t
