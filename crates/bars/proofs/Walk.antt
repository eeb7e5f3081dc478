-- The bars as the code goes through them, from the smallest on.
--     left               what is left to try from bar i on
--     bar_fits, next     bar i allows a spacing, or the bars after it are tried
-- Assumes nothing.
use Prim.Native.Nat.{ℕ, suc, zero, ◌+◌, ◌≤◌, ◌<◌}
use mathlib.Core.List.{List, [], ◌∷◌}
use mathlib.Core.Path.{◌≡◌, refl, ◌∙◌}
use native.Mathlib.Omega.{arith}
use borrow.Author.Tests.{le-leb, lt-leb, ne_eqb}
use Rattle.std.proofs.Common.{slice_index_or}
use Rattle.std.specs.Prelude.{Some}
use Rattle.bars.specs.declared.choice.Bars.{Bars}
use Rattle.bars.specs.Choice.{bars, widest, or_next, bars_for, if_any}

-- diameters and areas
abbrev listed : List (ℕ × ℕ)
listed = (10, 79) ∷ (12, 113) ∷ (16, 201) ∷ []

abbrev pub bar_at : ℕ → ℕ × ℕ
bar_at i = slice_index_or listed i (0, 0)

module _ (width area t : ℕ) where
  abbrev pub left : ℕ → Bars
  left zero = bars_for width area t
  left (suc zero) = or_next 12 113 width area t (or_next 16 201 width area t (bars 0 0))
  left (suc (suc zero)) = or_next 16 201 width area t (bars 0 0)
  left (suc (suc (suc i))) = bars 0 0

  turn : (i : ℕ) → i < 3 → (left i ≡ or_next (bar_at i).0 (bar_at i).1 width area t (left (i + 1))) × ¬ ((bar_at i).0 ≡ 0)
  unfolding bars_for
  turn zero h = (refl, λ e. omega (arith, e))
  turn (suc zero) h = (refl, λ e. omega (arith, e))
  turn (suc (suc zero)) h = (refl, λ e. omega (arith, e))
  turn (suc (suc (suc i))) h = absurd (omega (arith, h))

  module _ {i spacing : ℕ} (h : i < 3) (so : bars_for width area t ≡ left i) (is : spacing ≡ widest (bar_at i).1 width area t) where
    pub bar_fits : 80 ≤ spacing → Some (bars (bar_at i).0 spacing) ≡ if_any (bars_for width area t)
    bar_fits fits = rw (so ∙ (turn i h).0, ← is, le-leb 80 spacing fits, ne_eqb _ 0 (turn i h).1)

    pub next : spacing < 80 → bars_for width area t ≡ left (i + 1)
    next short = so ∙ (turn i h).0 ∙ rw (← is, lt-leb 80 spacing short)
