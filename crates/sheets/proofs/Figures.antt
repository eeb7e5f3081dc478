-- Texts that the definitions compute, by computing them.
-- Assumes nothing.
use mathlib.Core.Path.{◌≡◌, refl}
use mathlib.Core.List.{[], ◌∷◌}
use Rattle.sheets.specs.Text.{decimal, spaced}

-- 0, 4294967295, and 1 and 20 with a space between
pub figures :
    (decimal 0 ≡ 48 ∷ [])
    × (decimal 4294967295 ≡ 52 ∷ 50 ∷ 57 ∷ 52 ∷ 57 ∷ 54 ∷ 55 ∷ 50 ∷ 57 ∷ 53 ∷ [])
    × (spaced (1 ∷ 20 ∷ []) ≡ 49 ∷ 32 ∷ 50 ∷ 48 ∷ [])
unfolding decimal
figures = (refl, refl, refl)
