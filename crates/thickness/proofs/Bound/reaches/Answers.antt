-- The number is at most t exactly where both tests pass (says_up).
-- Assumes nothing.
use Prim.Native.Nat.{ℕ, ◌*◌, ◌<◌, max}
use mathlib.Core.Bool.{◌&&◌}
use mathlib.Core.Path.{◌≡◌}
use lib.Dec.{leb}
use borrow.Author.Tests.{le-leb}
use Rattle.numbers.specs.Rounding.{up}
use Rattle.numbers.proofs.Rounded.{says_up}
use Rattle.numbers.proofs.Tests.{says_le, says_one}
use Rattle.thickness.proofs.Bound.reaches.Goals as goal

two_tests : (n d m t : ℕ) → 0 < d → leb (max m (up n d)) t ≡ (leb m t && leb n (t * d))
two_tests n d m t pos = says_one (says_le (max m (up n d)) t) (says_up n m t pos)

pub returns-then-self-t : goal.returns-then-self-t
returns-then-self-t c = let s = c.args.self in
    rw (two_tests s.n s.d s.least c.args.t c.requires.positive, le-leb _ _ c.if-self-t.true)
