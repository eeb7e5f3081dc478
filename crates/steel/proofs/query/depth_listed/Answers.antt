-- By cases of the first of the two ranges.
-- Assumes nothing.
use Prim.Native.Nat.{ℕ, ◌-◌}
use mathlib.Core.Bool.{Bool}
use mathlib.Core.Path.{◌≡◌, sym, ap, ◌∙◌}
use Rattle.numbers.specs.Tests.{within}
use Rattle.steel.specs.Query.{depth_listed}
use Rattle.steel.proofs.query.depth_listed.Goals as goal

inside : (t d : ℕ) {m : ℕ} {b : Bool} → m ≡ t - 25 → b ≡ within 50 m d → within 50 (t - 25) d ≡ b
inside t d left e = sym (e ∙ ap (λ (n : ℕ). within 50 n d) left)

pub returns-then-inside : goal.returns-then-inside
unfolding depth_listed
returns-then-inside c = rw (inside _ _ c.saturating_sub.ensures c.within-inside.ensures, c.if-inside.true)

pub returns-else-inside : goal.returns-else-inside
unfolding depth_listed
returns-else-inside c = rw (inside _ _ c.saturating_sub.ensures c.within-inside.ensures, c.if-inside.false)
