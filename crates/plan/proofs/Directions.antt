-- Both directions through one parameter: a test along x and along y says it of every direction, and each kind of a direction has its count.
-- Assumes nothing.
use Prim.Native.Nat.{ℕ, ◌+◌}
use mathlib.Core.Bool.{Bool, ◌&&◌}
use mathlib.Core.List.{List}
use mathlib.Core.Path.{◌≡◌, refl}
use Rattle.numbers.specs.Tests.{Says}
use Rattle.numbers.proofs.Tests.{says_and, says_as}
use Rattle.records.specs.Kinds.{count_of}
use Rattle.plan.specs.declared.ways.Way.{Way}
use Rattle.plan.specs.declared.ways.Way.TheVariants.{X, Y}
use Rattle.plan.specs.Ways.{span_kind, line_kind}
use Rattle.plan.specs.Plan.{bays, many, last_line}

pub says_ways : {p : Way → Bool} {P : Way → Type 0} → ((d : Way) → Says (p d) (P d)) → Says (p X && p Y) ((d : Way) → P d)
says_ways {p} {P} s = says_as either (λ h. (h X, h Y)) (says_and (s X) (s Y))
  where
    either : P X × P Y → (d : Way) → P d
    either h X = h.0
    either h Y = h.1

module _ (f : List ℕ) where
  pub span_count : (d : Way) → many f (span_kind d) ≡ bays f d
  unfolding count_of
  span_count X = refl
  span_count Y = refl

  pub line_count : (d : Way) → many f (line_kind d) ≡ last_line f d + 1
  unfolding count_of
  line_count X = refl
  line_count Y = refl
