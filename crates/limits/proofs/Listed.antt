-- The list of the limits is in the order of limit_at, so that a walk over it meets the k-th at k.
-- Assumes nothing.
use Prim.Native.Nat.{ℕ, zero, suc}
use mathlib.Core.Path.{◌≡◌, refl}
use lib.ListN.{get_or}
use Rattle.limits.specs.declared.TheConstants.{LIMITS}
use Rattle.limits.specs.declared.Limit.TheVariants.{Thin}
use Rattle.limits.specs.Places.{limit_at}

pub listed : (k : ℕ) → get_or LIMITS k Thin ≡ limit_at k
listed zero = refl
listed (suc zero) = refl
listed (suc (suc zero)) = refl
listed (suc (suc (suc zero))) = refl
listed (suc (suc (suc (suc zero)))) = refl
listed (suc (suc (suc (suc (suc zero))))) = refl
listed (suc (suc (suc (suc (suc (suc zero)))))) = refl
listed (suc (suc (suc (suc (suc (suc (suc k))))))) = refl
