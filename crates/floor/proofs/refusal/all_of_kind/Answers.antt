-- The records of a kind lie in the file, and the bays at hand are the floor's (Filed).
-- Assumes nothing.
use Rattle.floor.proofs.Filed.{run, kind_read}
use Rattle.floor.proofs.refusal.all_of_kind.Goals as goal

pub kind_ok-requires : goal.kind_ok-requires
kind_ok-requires c = run c.requires.filed c.args.plan.now.sized _ c.requires.kind c.start_of.ensures c.count_of.ensures

pub returns : goal.returns
returns c = kind_read c.requires.filed c.args.plan.now.sized _ _ c.start_of.ensures.0 c.count_of.ensures.0 c.kind_ok.ensures
