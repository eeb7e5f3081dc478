-- Printed figures beside ours, for a table under a single claim.
-- Assumes nothing.
use Rattle.std.specs.Prelude.{cond, List, [], ◌∷◌, ℕ, eqb}
use Prim.Native.String.{String}

-- what it is a figure of, what the definitions make it, and what it is on paper: as 01 prints it, or worked out by hand
pub record Figure : Type 0 where
  pub name : String
  pub ours : ℕ
  pub paper : ℕ

abbrev pub figure : String → ℕ → ℕ → Figure
figure name ours paper = record { name = name; ours = ours; paper = paper }

-- the figures that differ: a claim `wrong figures ≡ []` by `refl` fails with their names
abbrev pub wrong : List Figure → List Figure
wrong [] = []
wrong (f ∷ fs) = cond (eqb f.ours f.paper) (wrong fs) (f ∷ wrong fs)
