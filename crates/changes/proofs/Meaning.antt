-- What refusal 9's test says: the test's own parts, put together by the laws of `says-..`.
-- Assumes nothing.
use Prim.Native.Nat.{ℕ}
use mathlib.Core.List.{List}
use lib.ListN.{length}
use Rattle.numbers.specs.Tests.{Says}
use Rattle.numbers.proofs.Tests.{says_lt, says_eq, says_and, says_as}
use Rattle.records.proofs.Meaning.{says_zero, says_changeable}
use Rattle.plan.specs.Plan.{bays_of}
use Rattle.changes.specs.Change.{change_ok}
use Rattle.changes.specs.Meaning.{Fitting}

pub says_change : (f c : List ℕ) → Says (change_ok (bays_of f) c) (Fitting f c)
unfolding change_ok
says_change f c =
    says_as
    (λ h. record { full = h.0; kind = h.1.0.0; index = h.1.0.1; zeros = h.1.1 })
    (λ q. (q.full, ((q.kind, q.index), q.zeros)))
    (says_and (says_eq (length c) 16) (says_and (says_and (says_changeable _) (says_lt _ _)) (says_zero _ _ _)))
