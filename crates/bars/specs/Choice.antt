-- 02, Five: the bars of a strip of this width that asks for this area of steel, in a slab of thickness t.
-- That `bars_for` is what `Meaning` asks of the choice for any area above 0, as every steel answer is, and that nothing else is, is proved in proofs/Chosen.
-- Assumes nothing.
use Rattle.std.specs.Prelude.{ℕ, ◌*◌, ◌/◌, min, cond, leb, eqb, Option, Some, None}
use Rattle.bars.specs.declared.choice.Bars.{Bars}

abbrev pub bars : ℕ → ℕ → Bars
bars diameter spacing = record { diameter = diameter; spacing = spacing }

-- "the largest multiple of 10 mm .. at most 2t, for which bar area times width is at least area times spacing"
unfoldable pub widest : ℕ → ℕ → ℕ → ℕ → ℕ
widest bar width area t = min (bar * width / area) (2 * t) / 10 * 10

-- bars of this diameter and area where that is "at least 80"; otherwise what follows
abbrev pub or_next : ℕ → ℕ → ℕ → ℕ → ℕ → Bars → Bars
or_next diameter bar width area t next = cond (leb 80 (widest bar width area t)) (bars diameter (widest bar width area t)) next

-- "Bars are 10, 12 or 16 mm with areas 79, 113 and 201 mm². .. The smallest bar that allows a spacing is taken." Zeros where none does.
unfoldable pub bars_for : ℕ → ℕ → ℕ → Bars
bars_for width area t = or_next 10 79 width area t (or_next 12 113 width area t (or_next 16 201 width area t (bars 0 0)))

-- the bars where there are any, whose diameter is then not 0
abbrev pub if_any : Bars → Option Bars
if_any b = cond (eqb b.diameter 0) None (Some b)
