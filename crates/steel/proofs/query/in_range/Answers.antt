-- Each callee's equation in turn.
-- Assumes nothing.
use Rattle.steel.specs.Query.{in_range}
use Rattle.steel.proofs.query.in_range.Goals as goal

pub returns : goal.returns
unfolding in_range
returns c = cc
