-- The bays of a panel that is there are below 12.
-- Assumes nothing.
use Rattle.numbers.proofs.Bounded.{fits}
use Rattle.verdict.proofs.Query.{bays_few}
use Rattle.verdict.proofs.least_of.Goals as goal

pub overflow_cast-i : goal.overflow_cast-i
overflow_cast-i c = fits (bays_few c.requires).0 tt

pub overflow_cast-j : goal.overflow_cast-j
overflow_cast-j c = fits (bays_few c.requires).1 tt
