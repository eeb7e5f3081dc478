-- Along x, then along y.
-- Assumes nothing.
use native.Mathlib.Omega.{arith}
use Rattle.broken.specs.Listing.{limit_places}
use Rattle.broken.proofs.Laid.{listed_more}
use Rattle.broken.proofs.list_limit.Goals as goal

pub returns : goal.returns
unfolding limit_places
returns c = let x = c.list_along-m.ensures in
    let y = c.list_along.ensures in
    (listed_more x.0 y.0, omega (arith, x.1, y.1))
