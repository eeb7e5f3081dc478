-- Each bay beside the bays that there are.
-- Assumes nothing.
use Rattle.verdict.specs.Answers.{has_panel}
use Rattle.verdict.proofs.has_panel.Goals as goal

pub returns : goal.returns
unfolding has_panel
returns c = cc (c.both.ensures, c.bays-nx.ensures.0, c.bays-ny.ensures.0)
