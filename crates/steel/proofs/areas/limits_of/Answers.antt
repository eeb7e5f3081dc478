-- Each part by its callee; the moment's two products fit by the query's ranges.
-- Assumes nothing.
use Prim.Native.Nat.{◌≤◌}
use Rattle.numbers.proofs.Bounded.{◌⊗◌, #, fits}
use Rattle.steel.specs.Steel.{limits_of}
use Rattle.steel.proofs.Ranges.{depth_range}
use Rattle.steel.proofs.areas.limits_of.Goals as goal

depth : (c : goal.After-depth_of-d) → c.depth_of-d.result ≤ 475
depth c = rw c.depth_of-d.ensures (depth_range c.requires).1

pub overflow_mul-result-2 : goal.overflow_mul-result-2
unfolding limits_of
overflow_mul-result-2 c = let r = c.requires in fits (# _ ⊗ r.materials.0.1 ⊗ r.width.1) tt

pub overflow_mul-result-3 : goal.overflow_mul-result-3
unfolding limits_of
overflow_mul-result-3 c = let r = c.requires in fits (# _ ⊗ r.materials.0.1 ⊗ r.width.1 ⊗ depth c) tt

pub overflow_mul-result-5 : goal.overflow_mul-result-5
unfolding limits_of
overflow_mul-result-5 c = let r = c.requires in fits (# _ ⊗ r.materials.0.1 ⊗ r.width.1) tt

pub overflow_mul-result-6 : goal.overflow_mul-result-6
unfolding limits_of
overflow_mul-result-6 c = let r = c.requires in fits (# _ ⊗ r.materials.0.1 ⊗ r.width.1 ⊗ r.moment) tt

pub returns : goal.returns
unfolding limits_of
returns c = rw (c.strain_area.ensures, c.minimum_area.ensures, c.depth_of-d.ensures)
