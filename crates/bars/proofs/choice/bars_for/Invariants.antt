-- None of the bars before allows a spacing.
-- Assumes nothing.
use mathlib.Core.Path.{◌≡◌}
use Rattle.bars.specs.Choice.{bars_for}
use Rattle.bars.proofs.Walk.{left}
use Rattle.bars.proofs.choice.bars_for.Given as goal

abbrev pub invariant-loop-diameter : goal.invariant-loop-diameter
invariant-loop-diameter l = bars_for l.width l.area l.t ≡ left l.width l.area l.t l.diameter-index
