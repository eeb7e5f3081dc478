-- The moment: the test says 01's inequality over the integers.
-- Assumes nothing.
use Prim.Native.Nat.{ℕ, ◌-◌, ◌*◌, ◌≤◌}
use lib.Dec.{leb→le, le→leb}
use borrow.Author.Tests.{le-ltb}
use Rattle.numbers.specs.Tests.{Says}
use Rattle.numbers.proofs.Integers.{diff}
use Rattle.numbers.proofs.Tests.{says_le, says_as}
use Rattle.steel.specs.Search.{Carries, carries}

-- where what is in the brackets is not negative, the test passes exactly where 01's inequality holds. Past that the two part: at M 0 the
-- naturals' difference, cut off at 0, still passes
pub says_carries : (fy block load As : ℕ) → 10 * As * fy ≤ block → Says (carries fy block load As) (Carries fy block load As)
says_carries fy block load As h =
    says_as
    (λ e. rw (diff block (10 * As * fy), le-ltb block (10 * As * fy) h) (record { le = le→leb _ _ e }))
    (λ e. leb→le _ _ (rw (diff block (10 * As * fy), le-ltb block (10 * As * fy) h) at e).le)
    (says_le load (9 * As * fy * (block - 10 * As * fy)))
