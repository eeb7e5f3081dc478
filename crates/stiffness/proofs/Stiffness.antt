-- The inertia of a beam with its flange is bounded by a multiple of t³, and so α is bounded: all that a user of α may know of it, besides its name
-- and that it is 0 without a beam (`alpha_none`).
--     apart_most      the largest number on the way, reached at b 1000, h 1500, t 375, inside: it fits 64 bits
--     flanged_most    the flange adds no more than 8t, so that its share grows with t² and not with t³
-- Assumes nothing.
use Prim.Native.Nat.{ℕ, ◌+◌, ◌*◌, ◌-◌, ◌/◌, ◌≤◌, ◌<◌}
use mathlib.Core.Path.{◌≡◌, refl}
use mathlib.Core.Bool.{Bool, true, false}
use native.Mathlib.Nat.{le_trans, mul-le-mul_left, mul_assoc, mul-pos, div-le_of_le-mul}
use native.Mathlib.Decide.{dec_lt}
use native.Mathlib.Omega.{arith}
use Prim.Native.Nat.{zero-le}
use Rattle.numbers.proofs.Bounded.{◌⊗◌, ◌⊖◌, #, over, cubed}
use Rattle.numbers.proofs.Tests.{says_eq, by_test}
use Rattle.stiffness.specs.Asked.{Beam, Flanged, Frame, Part}
use Rattle.stiffness.specs.Sections.{cube, of_beam, area, inertia, flange, overhang, apart, flanged_inertia}
use Rattle.stiffness.specs.Lines.{alpha}

-- ---- the largest number on the way

-- the product of two numbers is at most the square of their mean
mean : (x y : ℕ) → 4 * (x * y) ≤ (x + y) * (x + y)
mean x y = go (dec_lt x y)
  where
    apart_by : (x d : ℕ) → 4 * (x * (x + d)) + d * d ≡ (x + (x + d)) * (x + (x + d))
    apart_by x d = omega arith

    go : Dec (x < y) → 4 * (x * y) ≤ (x + y) * (x + y)
    go (yes h) = let e : y ≡ x + (y - x) = omega arith in rw e (omega (arith, apart_by x (y - x)))
    go (no h) = let e : x ≡ y + (x - y) = omega arith in rw e (omega (arith, apart_by y (x - y)))

-- t·u³ for t + u up to 1500, by the means of 3t with u and of 3t + u with 2u: all are equal at 375 and 1125
cubed_most : (t u : ℕ) → t + u ≤ 1500 → t * (u * u * u) ≤ 533935546875
cubed_most t u h = omega (arith, turned (3 * t + u), mul-le-mul_left (u * u) (mean (3 * t) u), both ⊗ both)
  where
    three : 3 * t + u + 2 * u ≤ 4500
    three = omega arith

    both : (3 * t + u) * u ≤ 2531250
    both = omega (arith, mean (3 * t + u) (2 * u), three ⊗ three)

    turned : (m : ℕ) → u * u * (m * m) ≡ m * u * (m * u)
    turned m = omega arith

-- and its quotient is no larger
pub term_most : {n d r : ℕ} → n ≤ 4805419921875000000 → 0 < d → r ≡ n / d → r ≤ 4805419921875000000
term_most most there e = rw e (over most there tt)

module _ {b h p t : ℕ} (flanged : Flanged b h p t) where
  deeper : t < h
  deeper = flanged.beam.above flanged.there

  -- the flange by its two limits
  by_below : p ≤ 2 * (h - t)
  unfolding flange
  by_below = omega (arith, flanged.most)

  by_slab : p ≤ 8 * t
  unfolding flange
  by_slab = omega (arith, flanged.most)

  overhang_most : p ≤ 2400
  overhang_most = omega (arith, deeper, flanged.beam.depth_most, by_below, by_slab)

  moved : p * t * ((h - t) * (h - t)) ≤ 1067871093750
  moved =
      omega
      (arith, cubed_most t (h - t) (omega (arith, deeper, flanged.beam.depth_most)), by_below ⊗ # t ⊗ # ((h - t) * (h - t)), turned t (h - t))
    where
      turned : (t u : ℕ) → 2 * u * t * (u * u) ≡ 2 * (t * (u * u * u))
      turned t u = omega arith

  pub apart_most : apart b h p t ≤ 4805419921875000000
  apart_most = rw (mul_assoc (3 * area b h) (area p t) ((h - t) * (h - t))) (# 3 ⊗ (flanged.beam.width_most ⊗ flanged.beam.depth_most) ⊗ moved)

  -- the areas, as the program has them
  pub product_most : {x y : ℕ} → x ≡ area b h → y ≡ area p t → 3 * x * y ≤ 5400000000000
  product_most e e' = rw (e, e') (# 3 ⊗ (flanged.beam.width_most ⊗ flanged.beam.depth_most) ⊗ (overhang_most ⊗ flanged.beam.slab_most))

  pub areas_pos : {x : ℕ} (y : ℕ) → x ≡ area b h → 0 < x + y
  areas_pos y e = omega (arith, mul-pos {m = b} {n = h} flanged.there (omega (arith, deeper)))

  -- b·h of b·h + p·t
  share_most : apart b h p t / (area b h + area p t) ≤ 3 * area p t * ((h - t) * (h - t))
  share_most = div-le_of_le-mul _ (omega arith)

  pub flanged_most : flanged_inertia b h p t ≤ 12000000 * cube t
  unfolding flanged_inertia inertia
  flanged_most =
      let t≥ = flanged.beam.slab_least in
      let web : b * cube h ≤ 3375000000000 = flanged.beam.width_most ⊗ cubed flanged.beam.depth_most in
      let upper : p * cube t ≤ 2400 * cube t = overhang_most ⊗ # (cube t) in
      let below : h - t ≤ 1500 = flanged.beam.depth_most ⊖ t in
      let beyond = # 3 ⊗ (by_slab ⊗ # t) ⊗ (below ⊗ below) in
      let slab : 90 * (t * t) ≤ t * (t * t) = t≥ ⊗ # (t * t) in
      omega (arith, web, upper, cubed t≥, le_trans share_most beyond, slab)

  pub wing : Part p t
  wing = record { width_most = overhang_most; depth_most = omega (arith, flanged.beam.slab_most) }

-- reached: the bound could not be lower
apart_reached : apart 1000 1500 (overhang false 1500 375) 375 ≡ 4805419921875000000
unfolding flange
apart_reached = refl

-- ---- α

none_most : (b : ℕ) {n m : ℕ} → (0 < b → n ≤ m) → of_beam b n ≤ m
none_most b {m = m} h = by_test (λ n. n ≤ m) (says_eq b 0) (λ e. zero-le) (λ e. h (omega arith))

pub overhang_in : (outer : Bool) (h t : ℕ) → overhang outer h t ≤ 2 * flange h t
overhang_in true h t = omega arith
overhang_in false h t = omega arith

pub flanged_of : (outer : Bool) {b h t : ℕ} → Beam b h t → 0 < b → Flanged b h (overhang outer h t) t
flanged_of outer {h = h} {t = t} beam there = record { beam = beam; there = there; most = overhang_in outer h t }

pub alpha_most : (outer : Bool) {b h W t : ℕ} → Beam b h t → Frame W → alpha outer b h W t ≤ 200000000
unfolding alpha
alpha_most outer {b} {t = t} beam frame =
    none_most b (λ there. div-le_of_le-mul _ (omega (arith, flanged_most (flanged_of outer beam there), frame.least ⊗ # (cube t))))

pub alpha_none : (outer : Bool) (h W t : ℕ) → alpha outer 0 h W t ≡ 0
unfolding alpha
alpha_none outer h W t = refl
