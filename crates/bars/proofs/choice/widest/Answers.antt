-- Twice the thickness bounds it.
-- Assumes nothing.
use Prim.Native.Nat.{ℕ, ◌*◌, ◌/◌, ◌≤◌, min}
use mathlib.Core.Path.{◌∙◌}
use native.Mathlib.Nat.{div-mul-le_self}
use native.Mathlib.Omega.{arith}
use Rattle.numbers.proofs.Bounded.{◌⊗◌, fits, exactly}
use Rattle.bars.specs.Choice.{widest}
use Rattle.bars.proofs.choice.widest.Goals as goal

most : (q t : ℕ) → t ≤ 500 → min q (2 * t) / 10 * 10 ≤ 1000
most q t h = omega (arith, div-mul-le_self (min q (2 * t)) 10)

pub overflow_mul-bar : goal.overflow_mul-bar
unfolding widest
overflow_mul-bar c = fits (c.requires.bar_most ⊗ c.requires.strip.width_most) tt

pub whole_tens-requires : goal.whole_tens-requires
unfolding widest
whole_tens-requires c = omega (arith, c.min.ensures, c.requires.strip.slab_most)

pub returns : goal.returns
unfolding widest
returns c = exactly (λ (r : ℕ). r ≤ 1000) (c.whole_tens.ensures ∙ rw c.min.ensures) (most _ _ c.requires.strip.slab_most)
