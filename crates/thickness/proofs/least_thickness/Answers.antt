-- The rule's number is the answer of 01, and with ten percent more where it is needed the definition's, of which the promise holds.
-- Assumes nothing.
use Rattle.thickness.specs.LeastThickness.{least_thickness}
use Rattle.thickness.proofs.Thinnest.{thinnest}
use Rattle.thickness.proofs.least_thickness.Goals as goal

pub returns : goal.returns
unfolding least_thickness
returns c = thinnest c.requires (rw (c.reach.ensures, c.rule_of.ensures.is, c.raises.ensures) at c.raise.ensures)
