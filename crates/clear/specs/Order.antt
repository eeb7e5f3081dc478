-- What is asked one after the other: 1 and 16, then 2, 32 and 64 of the first panel, then 4, 2 and 8 of the whole floor, which need no α, then 32 and 64 of
-- every panel. The limits themselves are those of the verdict.
-- Assumes nothing.
use Rattle.std.specs.Prelude.{ℕ, Bool, ◌||◌, List}
use Rattle.plan.specs.declared.ways.Way.TheVariants.{X, Y}
use Rattle.limits.specs.Limits.{some_panel, slender_panel, uneven, astray, unbalanced_panel, unbalanced, thin_panel}

-- 2, 32 and 64 in the first panel
abbrev pub first_panel_broken : List ℕ → Bool
first_panel_broken f = (slender_panel f 0 0 || unbalanced_panel f 0 0) || thin_panel f 0 0

-- 4, 2 and 8
abbrev pub broken_without_alpha : List ℕ → Bool
broken_without_alpha f = (uneven f X || uneven f Y) || (some_panel f (slender_panel f) || astray f)

-- 32 and 64
abbrev pub panels_broken : List ℕ → Bool
panels_broken f = unbalanced f || some_panel f (thin_panel f)
