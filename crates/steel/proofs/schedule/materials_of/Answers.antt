-- What the floor's panels share, and its concrete.
-- Assumes nothing.
use Rattle.lines.specs.Slabs.{slab_of}
use Rattle.steel.specs.Strips.{materials_of}
use Rattle.steel.proofs.schedule.materials_of.Goals as goal

pub returns : goal.returns
unfolding materials_of slab_of
returns c = rw (c.args.floor.shared, c.strength.ensures)
