-- Each callee's equation in turn; an accepted floor's layout is allowed (Fair).
-- Assumes nothing.
use Rattle.lines.specs.Slabs.{slab_of}
use Rattle.floor.proofs.Fair.{regular}
use Rattle.lines.proofs.slab.slab_of.Goals as goal

pub layout_told-requires : goal.layout_told-requires
layout_told-requires c = rw c.of-plan.ensures (regular _ c.requires.accepted)

pub returns : goal.returns
unfolding slab_of
returns c =
    let bays = rw c.of-plan.ensures at c.of-plan.result.sized.is in
    let layout = rw c.of-plan.ensures at c.layout_told.ensures in
    cc (bays, layout)
