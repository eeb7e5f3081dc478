-- The limits that a query sets are 01's three inequalities: n ≤ k·As is "As is at least n/k rounded up", k·As ≤ n is "at most n/k rounded down".
-- Every area within the strain limit lies left of the parabola's top, so what is in 01's brackets is not negative there, and the tangent rises.
-- Assumes nothing.
use Prim.Native.Nat.{ℕ, ◌*◌, ◌/◌, ◌≤◌, ◌<◌}
use mathlib.Core.Bool.{Bool, true, false, cond}
use mathlib.Core.Logic.{◌↔◌}
use mathlib.Core.Path.{◌≡◌}
use native.Mathlib.Nat.{le_refl, le_trans, lt_of_le_of_lt, mul_comm, mul-le-mul_right, le-div_iff_mul-le}
use native.Mathlib.Omega.{arith}
use lib.Dec.{eqb, lit<}
use Rattle.numbers.specs.Rounding.{up}
use Rattle.numbers.proofs.Bounded.{◌⊗◌, #, over, pos_of}
use Rattle.numbers.proofs.Rounded.{up_reaches, up_first}
use Rattle.steel.specs.declared.query.Query.{Query}
use Rattle.steel.specs.Asked.{Searchable}
use Rattle.steel.specs.Query.{InRange, depth_of}
use Rattle.steel.specs.Area.{K, Minimum, Strain, Fits}
use Rattle.steel.specs.Search.{Within}
use Rattle.steel.specs.Steel.{minimum_area, strain_area, limits_of}
use Rattle.steel.proofs.Ranges.{k_most, grade_range, depth_range}

-- a multiple that reaches n, and one that stays within n
at_least : (n As : ℕ) {k : ℕ} → 0 < k → (n ≤ k * As) ↔ (up n k ≤ As)
at_least n As {k} pos =
    (λ h. up_first n As pos (rw (mul_comm As k) h), λ h. rw (mul_comm k As) (le_trans (up_reaches n pos) (mul-le-mul_right k h)))

at_most : (n k As fy : ℕ) → 0 < k * fy → (k * As * fy ≤ n) ↔ (As ≤ n / (k * fy))
at_most n k As fy pos =
    let e : k * As * fy ≡ As * (k * fy) = omega arith in
    rw e ((le-div_iff_mul-le pos).1, (le-div_iff_mul-le pos).0)

-- a limit that a test picks
by_either : (b : Bool) {P Q : Type 0} {u v As : ℕ} → P ↔ (u ≤ As) → Q ↔ (v ≤ As) → cond b P Q ↔ (cond b u v ≤ As)
by_either true p q = p
by_either false p q = q

module _ {q : Query} (r : InRange q) where
  minimum_is : (As : ℕ) → Minimum q As ↔ (minimum_area q ≤ As)
  unfolding minimum_area
  minimum_is As =
      by_either (eqb q.fy 280) (at_least (2 * q.b * q.t) As (lit< tt))
      (at_least (756 * q.b * q.t) As (pos_of (# 1000 ⊗ (grade_range r).0) tt))

  strain_is : (As : ℕ) → Strain q As ↔ (As ≤ strain_area q)
  unfolding strain_area
  strain_is As = at_most (51 * K q.fc * q.fc * q.b * depth_of q) 224000 As q.fy (pos_of (# 224000 ⊗ (grade_range r).0) tt)

  -- an area within the strain limit is at most half of the one at the parabola's top, which is half of what makes 01's brackets 0
  pub left_of_top : (As : ℕ) → Strain q As → 40 * As * q.fy ≤ 17 * q.fc * q.b * depth_of q
  left_of_top As h = omega (arith, h, # 51 ⊗ k_most q.fc ⊗ # q.fc ⊗ # q.b ⊗ # (depth_of q))

  -- what 01 asks of an area is that it lies within the limits
  pub fits_within : (As : ℕ) → Fits q As ↔ Within (limits_of q) As
  unfolding limits_of
  fits_within As = (
    λ m. record { moment = m.moment; minimum = (minimum_is As).0 m.minimum; strain = (strain_is As).0 m.strain },
    λ w. record { moment = w.moment; minimum = (minimum_is As).1 w.minimum; strain = (strain_is As).1 w.strain },
  )

  pub searchable : Searchable (limits_of q)
  unfolding limits_of strain_area
  searchable =
      let most = strain_area q in
      let concrete = r.materials.0 in
      record {
        rising = omega (
          arith,
          left_of_top most ((strain_is most).1 (le_refl most)),
          # 17 ⊗ concrete.0 ⊗ r.width.0 ⊗ (depth_range r).0,
        );
        grade = (omega (arith, (grade_range r).0), (grade_range r).1);
        room = # 17 ⊗ concrete.1 ⊗ r.width.1 ⊗ (depth_range r).1;
        heaviest = # 1700 ⊗ concrete.1 ⊗ r.width.1 ⊗ r.moment;
        short =
            lt_of_le_of_lt
            (over (# 51 ⊗ k_most q.fc ⊗ concrete.1 ⊗ r.width.1 ⊗ (depth_range r).1) (# 224000 ⊗ (grade_range r).0) tt) (lit< tt);
      }
