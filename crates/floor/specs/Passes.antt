-- A floor that passes every check of refusals 1 to 7: what each asks, by its name.
-- Assumes nothing.
use Rattle.std.specs.Prelude.{ℕ, List}
use Rattle.floor.specs.Meaning.{Whole, First, Counted, AsListed, InRanges}
use Rattle.layouts.specs.Meaning.{ColumnsFit, LayoutAllowed, BeamsDeep}

pub record Passes (f : List ℕ) : Type 0 where
  pub whole : Whole f
  pub first : First f
  pub counted : Counted f
  pub listed : AsListed f
  pub ranged : InRanges f
  pub columns : ColumnsFit f
  pub beams : LayoutAllowed f × BeamsDeep f
