-- 02, Five: what is asked of the bars of a strip, in its words.
-- Assumes nothing.
use Rattle.std.specs.Prelude.{ℕ, ◌*◌, ◌≤◌, ◌<◌, ◌↔◌, ◌≡◌}
use Rattle.bars.specs.declared.choice.Bars.{Bars}

-- r is the largest number with P
pub record Largest (P : ℕ → Type 0) (r : ℕ) : Type 0 where
  pub holds : P r
  pub last : (s : ℕ) → P s → s ≤ r

-- "a multiple of 10 mm, at least 80 and at most 2t, for which bar area times width is at least area times spacing"
pub record Allows (bar width area t s : ℕ) : Type 0 where
  pub tens : (m : ℕ) × (s ≡ m * 10)
  pub least : 80 ≤ s
  pub most : s ≤ 2 * t
  pub enough : area * s ≤ bar * width

-- "Bars are 10, 12 or 16 mm with areas 79, 113 and 201 mm²": a diameter, and its area
pub data Bar : ℕ → ℕ → Type 0 where
  ten : Bar 10 79
  twelve : Bar 12 113
  sixteen : Bar 16 201

-- a bar that allows a spacing, with its largest; "The smallest bar that allows a spacing is taken"
pub record Chosen (width area t : ℕ) (b : Bars) : Type 0 where
  pub each : ℕ
  pub bar : Bar b.diameter each
  pub spacing : Largest (Allows each width area t) b.spacing
  pub smallest : (d a : ℕ) → Bar d a → d < b.diameter → (s : ℕ) → ¬ Allows a width area t s

-- no bar allows a spacing
abbrev pub NoBar : ℕ → ℕ → ℕ → Type 0
NoBar width area t = (d a : ℕ) → Bar d a → (s : ℕ) → ¬ Allows a width area t s

-- the choice: zeros exactly where no bar allows a spacing
pub record Choice (width area t : ℕ) (b : Bars) : Type 0 where
  pub none : (b.diameter ≡ 0) ↔ NoBar width area t
  pub chosen : ¬ (b.diameter ≡ 0) → Chosen width area t b
  pub zero : b.diameter ≡ 0 → b.spacing ≡ 0
