-- "Equality always passes": the limits at their edges, computed.
-- Assumes nothing.
use mathlib.Core.List.{[]}
use mathlib.Core.Path.{◌≡◌, refl}
use Rattle.numbers.specs.Figures.{wrong}
use Rattle.limits.specs.Edges.{edges}

pub edges_hold : wrong edges ≡ []
edges_hold = refl
