-- Thirteen lines of thirteen supports each way at most.
-- Assumes nothing.
use native.Mathlib.Omega.{arith}
use Rattle.supports.specs.Governing.{support_count}
use Rattle.supports.proofs.Supports.{support_most}
use Rattle.supports.proofs.support_count.Goals as goal

pub returns : goal.returns
unfolding support_count
returns c = (omega arith, omega (arith, support_most c.requires))
