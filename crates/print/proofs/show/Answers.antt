-- The table and the governing negatives are lent blank.
-- Assumes nothing.
use Rattle.print.specs.Sheet.{blank}
use Rattle.print.proofs.show.Goals as goal

pub returns : goal.returns
unfolding blank
returns g c = c.in_ok-sheet.ensures.taken
