-- No single beam change can change the layout of a floor with two bays or more each way: lines 0 and 1 of either direction tell it, the
-- first an outer line and the second not, and a change leaves the lines of one direction as they were.
-- Assumes nothing.
use Prim.Native.Nat.{ℕ, ◌<◌, ◌≤◌}
use mathlib.Core.List.{List}
use mathlib.Core.Logic.{◌↔◌, inl, ⊎_elim}
use mathlib.Core.Path.{◌≡◌, refl, sym, subst}
use native.Mathlib.Omega.{arith}
use Rattle.plan.specs.declared.ways.Way.{Way}
use Rattle.plan.specs.Plan.{last_line, beam_width}
use Rattle.layouts.specs.declared.Layout.{Layout}
use Rattle.layouts.specs.declared.Layout.TheVariants.{Everywhere, OuterOnly, Bare}
use Rattle.layouts.specs.Layouts.{layout_of}
use Rattle.layouts.specs.Meaning.{Beamed, Outer, LaidOut}
use Rattle.floor.specs.Refusal.{refusal}
use Rattle.floor.proofs.Fair.{fair}

-- line 1 of three or more is no outer line
inner : (f : List ℕ) (d : Way) → 2 ≤ last_line f d → Outer f d 1 → ⊥
inner f d w = ⊎_elim (λ z. omega arith) (λ z. omega arith)

-- two layouts whose floors have the same beams on lines 0 and 1
told : (d : Way) (f g : List ℕ) → 2 ≤ last_line f d → 2 ≤ last_line g d → beam_width f d 0 ≡ beam_width g d 0 → beam_width f d 1 ≡ beam_width g d 1
    → (L M : Layout) → LaidOut f L → LaidOut g M → L ≡ M
told d f g w v zeroth first = by_layout
  where
    0-beam : Beamed f d 0 ↔ Beamed g d 0
    0-beam = (λ b. subst (λ n. 0 < n) zeroth b, λ b. subst (λ n. 0 < n) (sym zeroth) b)

    1-beam : Beamed f d 1 ↔ Beamed g d 1
    1-beam = (λ b. subst (λ n. 0 < n) first b, λ b. subst (λ n. 0 < n) (sym first) b)

    by_layout : (L M : Layout) → LaidOut f L → LaidOut g M → L ≡ M
    by_layout Everywhere Everywhere a b = refl
    by_layout Everywhere OuterOnly a b = absurd (inner g d v ((b d 1 (omega arith)).0 (1-beam.0 ((a d 1 (omega arith)).1 tt))))
    by_layout Everywhere Bare a b = absurd ((b d 1 (omega arith)).0 (1-beam.0 ((a d 1 (omega arith)).1 tt)))
    by_layout OuterOnly Everywhere a b = absurd (inner f d w ((a d 1 (omega arith)).0 (1-beam.1 ((b d 1 (omega arith)).1 tt))))
    by_layout OuterOnly OuterOnly a b = refl
    by_layout OuterOnly Bare a b = absurd ((b d 0 (omega arith)).0 (0-beam.0 ((a d 0 (omega arith)).1 (inl refl))))
    by_layout Bare Everywhere a b = absurd ((a d 1 (omega arith)).0 (1-beam.1 ((b d 1 (omega arith)).1 tt)))
    by_layout Bare OuterOnly a b = absurd ((a d 0 (omega arith)).0 (0-beam.1 ((b d 0 (omega arith)).1 (inl refl))))
    by_layout Bare Bare a b = refl

pub same_layout : (d : Way) (f g : List ℕ) → 2 ≤ last_line f d → 2 ≤ last_line g d → beam_width f d 0 ≡ beam_width g d 0 → beam_width f d 1 ≡ beam_width g d 1
    → refusal f ≡ 0 → refusal g ≡ 0 → layout_of f ≡ layout_of g
same_layout d f g w v zeroth first e e' =
    told d f g w v zeroth first (layout_of f) (layout_of g) (fair f e).layout (fair g e').layout
