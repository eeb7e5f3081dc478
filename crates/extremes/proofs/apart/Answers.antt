-- The ends of either list decide (Panels).
-- Assumes nothing.
use Rattle.extremes.proofs.Panels.{ends_in, apart_is}
use Rattle.extremes.proofs.apart.Goals as goal

pub ends_apart-requires : goal.ends_apart-requires
ends_apart-requires c = let p = c.requires in
    record { x_in = ends_in p.a_in c.ends_of.ensures; y_in = ends_in p.b_in c.ends_of-2.ensures; ratio = p.ratio }

pub returns : goal.returns
returns c = let p = c.requires in
    apart_is _ p.a_in p.b_in c.ends_of.ensures c.ends_of-2.ensures c.ends_apart.ensures
