-- The product is bounded by the product of its bounds.
-- Assumes nothing.
use Prim.Native.Nat.{◌+◌, ◌*◌, ◌≤◌}
use native.Mathlib.Omega.{arith}
use lib.Dec.{lit<}
use Rattle.strips.specs.Asked.{Loaded}
use Rattle.numbers.proofs.Bounded.{◌⊕◌, ◌⊗◌, #, fits}
use Rattle.strips.proofs.span.static_moment.Goals as goal

-- (12D + 16L)·W·ln²
most : {D L W ln : _} → Loaded D L W ln → (12 * D + 16 * L) * W * (ln * ln) ≤ 2004480000000000000
most s = (# 12 ⊗ s.dead ⊕ # 16 ⊗ s.live) ⊗ s.width ⊗ (s.clear ⊗ s.clear)

pub overflow_mul-dead-3 : goal.overflow_mul-dead-3
overflow_mul-dead-3 c = fits (most c.requires) tt

pub rounded_up-requires : goal.rounded_up-requires
rounded_up-requires c = record { positive = lit< tt; room = omega (arith, most c.requires) }
