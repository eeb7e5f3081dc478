-- What the beam takes is taken off, down to 0.
-- Assumes nothing.
use borrow.Author.Rules.{rules}
use Rattle.bars.specs.Widths.{column_width}
use Rattle.bars.proofs.width.column_width.Goals as goal

pub returns : goal.returns
unfolding column_width
returns c = search rules
