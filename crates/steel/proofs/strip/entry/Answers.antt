-- Each callee's equation in turn; a strip is no wider than its frame.
-- Assumes nothing.
use Rattle.numbers.proofs.Bounded.{fits}
use Rattle.steel.specs.Strips.{strip_query, entry_of}
use Rattle.steel.proofs.Reinforced.{width_most}
use Rattle.steel.proofs.strip.entry.Goals as goal

pub overflow_cast-result : goal.overflow_cast-result
unfolding entry_of strip_query
overflow_cast-result c = let p = c.requires in rw c.strip_width-width.ensures (fits (width_most _ _ p.strip p.width) tt)

pub returns : goal.returns
unfolding entry_of strip_query
returns c = rw (c.reinforce-laid.ensures, c.schedule_depth.ensures, c.strip_width-width.ensures, c.requires.moment_is)
