-- The loop keeps: no area within the limits below `area` carries the moment.
-- Assumes nothing.
use Prim.Native.Nat.{ℕ, ◌*◌, ◌≤◌, ◌<◌}
use native.Mathlib.Nat.{le_trans, lt_of_le_of_lt, mul-pos}
use native.Mathlib.Omega.{arith}
use lib.Dec.{lit<}
use borrow.Author.Rules.{rules}
use Rattle.numbers.proofs.Bounded.{◌⊕◌, ◌⊗◌, ◌⊖◌, #, upto, fits}
use Rattle.steel.proofs.Climb.{goes_on, step_most, on, met, none}
use Rattle.steel.proofs.Within.{left}
use Rattle.steel.specs.declared.search.Limits.{Limits}
use Rattle.steel.specs.Asked.{Searchable}
use Rattle.steel.proofs.search.least_within.Goals as goal

-- the tension of an area within the limits: left of the parabola's top, so each product fits and the tangent rises
tension : {l : Limits} (a : ℕ) → Searchable l → a ≤ l.most → 20 * (a * l.fy) < l.block
tension a s h = omega (arith, left s a h)

most_tension : {l : Limits} (a : ℕ) → Searchable l → a ≤ l.most → a * l.fy ≤ 290700000
most_tension a s h = omega (arith, tension a s h, s.room)

pub loop-area-init : goal.loop-area-init
loop-area-init c = (search rules, λ As h g below e. omega arith)

pub overflow_mul-tension : goal.overflow_mul-tension
overflow_mul-tension c = fits (most_tension _ c.requires c.loop-area-test.true) tt

pub overflow_mul-carried : goal.overflow_mul-carried
overflow_mul-carried c = fits (# _ ⊗ most_tension _ c.requires c.loop-area-test.true) tt

pub overflow_mul-carried-in-loop-area : goal.overflow_mul-carried-in-loop-area
overflow_mul-carried-in-loop-area c = fits (# _ ⊗ most_tension _ c.requires c.loop-area-test.true) tt

pub overflow_sub-carried : goal.overflow_sub-carried
overflow_sub-carried c = omega (arith, tension _ c.requires c.loop-area-test.true)

pub overflow_mul-carried-in-loop-area-2 : goal.overflow_mul-carried-in-loop-area-2
overflow_mul-carried-in-loop-area-2 c = fits (# _ ⊗ most_tension _ c.requires c.loop-area-test.true ⊗ (c.requires.room ⊖ _)) tt

pub returns-then-load-carried : goal.returns-then-load-carried
returns-then-load-carried c = let i = c.loop-area.invariant in
    met c.requires i.1 i.0 (omega arith) (omega arith)

pub overflow_mul-tension-in-loop-area : goal.overflow_mul-tension-in-loop-area
overflow_mul-tension-in-loop-area c = fits (# _ ⊗ most_tension _ c.requires c.loop-area-test.true) tt

pub overflow_sub-block : goal.overflow_sub-block
overflow_sub-block c = omega (arith, tension _ c.requires c.loop-area-test.true)

pub overflow_mul-fy-in-loop-area : goal.overflow_mul-fy-in-loop-area
overflow_mul-fy-in-loop-area c = let s = c.requires in fits (# _ ⊗ s.grade.1 ⊗ (s.room ⊖ _)) tt

pub rounded_up-area-requires : goal.rounded_up-area-requires
rounded_up-area-requires c = let s = c.requires in record {
  positive = mul-pos (omega arith) (omega (arith, tension _ c.requires c.loop-area-test.true));
  room = lt_of_le_of_lt ((s.heaviest ⊖ _) ⊕ # _ ⊗ s.grade.1 ⊗ (s.room ⊖ _)) (lit< tt);
}

pub overflow_add-area : goal.overflow_add-area
overflow_add-area c = let s = c.requires in let h = tension _ c.requires c.loop-area-test.true in
    rw c.rounded_up-area.ensures (fits
    (upto 4294967295 (omega arith) ⊕ le_trans (step_most _ (mul-pos (omega arith) (omega (arith, h)))) (s.heaviest ⊖ _)) tt)

pub loop-area-smaller : goal.loop-area-smaller
loop-area-smaller c = let h = tension _ c.requires c.loop-area-test.true in
    rw c.rounded_up-area.ensures (goes_on _ _ _ _ (omega arith) (mul-pos (omega arith) (omega (arith, h))) (omega arith))

pub loop-area-preserved : goal.loop-area-preserved
loop-area-preserved c = let s = c.requires in
    (search rules, rw c.rounded_up-area.ensures (on s c.loop-area.invariant.1))

pub returns : goal.returns
returns c = none c.requires c.loop-area.invariant.1 (omega arith)
