-- The inertia of a beam with its flange is document 001's. About any axis y the document's sum of cubes is b·h³ + p·t³ − 3y(b·h² + p·t²) + 3y²(b·h + p·t)
-- (`under`, `within`); at the centroid that leaves each rectangle's own inertia and what the distance between them adds (`parted`, `left`).
-- Assumes nothing.
use Prim.Native.Nat.{ℕ, zero, suc, ◌+◌, ◌*◌, ◌-◌, ◌/◌, ◌≤◌, ◌<◌}
use mathlib.Core.Path.{◌≡◌, refl, sym, ap, ◌∙◌}
use native.Mathlib.Nat.{mul-add, add-mul, mul_assoc, mul_comm, mul_left_comm, mul-zero, mul-le-mul_left, mul-pos, mul-add-div_right, mul-div-mul_left}
use native.Mathlib.Decide.{dec_lt}
use native.Mathlib.Omega.{arith}
use borrow.Author.Tests.{lt-ltb, le-ltb}
use lib.IntN.{pos, negsuc, neg_ℤ, neg_ℤ-neg_ℤ, ◌-ℤ◌, ◌*ℤ◌}
use Rattle.numbers.specs.Rounding.{floor_of}
use Rattle.numbers.proofs.Integers.{diff}
use Rattle.stiffness.specs.Asked.{Flanged}
use Rattle.stiffness.specs.Sections.{cube, area, inertia, apart, flanged_inertia}
use Rattle.stiffness.specs.ParallelAxis.{whole_area, in_units, centroid, cubeℤ, thrice, Exact, IsInertia}

ruleset ring = (mul-add, add-mul, mul_assoc, mul_comm, mul_left_comm)

-- ---- about any axis: y from the upper edge, s from the lower, e from the flange's lower edge

module _ (b h p t y e s : ℕ) (lower : h ≡ y + s) where
  -- below the flange
  under : y ≡ t + e
      → (b + p) * cube y + b * cube s + 3 * (y * (b * (h * h) + p * (t * t))) ≡ p * cube e + (b * cube h + p * cube t) + 3 * (y * y * (b * h + p * t))
  under upper = rw (lower, upper) (simp ring (omega arith))

  -- and in it
  within : t ≡ y + e
      → (b + p) * cube y + b * cube s + p * cube e + 3 * (y * (b * (h * h) + p * (t * t))) ≡ b * cube h + p * cube t + 3 * (y * y * (b * h + p * t))
  within upper = rw (lower, upper) (simp ring (omega arith))

-- ---- at the centroid

-- what the distance adds, a third of it
parted : (b h p t u : ℕ) → h ≡ t + u
    → (b * h + p * t) * (b * cube h + p * cube t) ≡ (b * (h * h) + p * (t * t)) * (b * (h * h) + p * (t * t)) + b * h * (p * t) * (u * u)
parted b h p t u e = rw e (simp ring (omega arith))

-- in a unit of which k make a mm
module _ (b h p t k : ℕ) where
  first : b * (k * h) + p * (k * t) ≡ k * (b * h + p * t)
  first = omega arith

  second : b * (k * h * (k * h)) + p * (k * t * (k * t)) ≡ k * k * (b * (h * h) + p * (t * t))
  second = simp ring (omega arith)

  third : b * cube (k * h) + p * cube (k * t) ≡ cube k * (b * cube h + p * cube t)
  third = simp ring (omega arith)

-- what is left of the cubic: J is the two rectangles' own, m the third
left : (A J y m X c : ℕ) → A * J ≡ y * y + m → X + 3 * (y * (2 * A * (2 * A) * y)) ≡ c + cube (2 * A) * J + 3 * (y * y * (2 * A * A))
    → X ≡ c + 2 * (A * A) * (A * J + 3 * m)
left A J y m X c e whole = omega (arith, ap (λ n. A * A * n) e, whole)

-- ---- of the integers

-- a difference of naturals, where it is known
more : (a b c : ℕ) → a ≡ b + c → pos a -ℤ pos b ≡ pos c
more a b c e = diff a b ∙ rw (le-ltb a b (omega arith)) (ap pos (omega arith))

less : (a b c : ℕ) → b ≡ a + c → pos a -ℤ pos b ≡ neg_ℤ (pos c)
less a b zero e = diff a b ∙ rw (le-ltb a b (omega arith)) (ap pos (omega arith))
less a b (suc c) e = diff a b ∙ rw (lt-ltb a b (omega arith)) (ap negsuc (omega arith))

cube_less : (c : ℕ) → cubeℤ (neg_ℤ (pos c)) ≡ neg_ℤ (pos (cube c))
cube_less zero = refl
cube_less (suc c) = refl

times_less : (p c : ℕ) → pos p *ℤ neg_ℤ (pos c) ≡ neg_ℤ (pos (p * c))
times_less p zero = rw (mul-zero p)
times_less p (suc c) = refl

module _ (b h p t : ℕ) (t≤h : t ≤ h) where
  abbrev A : ℕ
  A = whole_area b h p t

  abbrev J : ℕ
  J = b * cube h + p * cube t

  abbrev y : ℕ
  y = centroid b h p t

  abbrev H : ℕ
  H = in_units b h p t h

  abbrev F : ℕ
  F = in_units b h p t t

  abbrev s : ℕ
  s = H - y

  -- what the cubes are, but for the sign of the last
  abbrev Q : ℕ
  Q = 2 * (A * A) * (A * J + apart b h p t)

  lower : H ≡ y + s
  lower = omega (arith, mul-le-mul_left (p * t) t≤h)

  third_of : A * J ≡ y * y + b * h * (p * t) * ((h - t) * (h - t))
  third_of = parted b h p t (h - t) (omega arith)

  spread : (X c : ℕ) → X + 3 * (y * (b * (H * H) + p * (F * F))) ≡ c + (b * cube H + p * cube F) + 3 * (y * y * (b * H + p * F)) → X ≡ c + Q
  spread X c e =
      left A J y (b * h * (p * t) * ((h - t) * (h - t))) X c third_of (rw (second b h p t (2 * A), third b h p t (2 * A), first b h p t (2 * A)) at e)
      ∙ ap (λ n. c + 2 * (A * A) * (A * J + n)) (omega arith)

  -- by where the centroid lies
  cubes : Dec (y < F) → thrice b h p t ≡ pos Q
  cubes (yes in_flange) =
      let e = F - y in
      rw (more H y s lower, less y F e (omega arith), cube_less e, times_less p (cube e), neg_ℤ-neg_ℤ (pos (p * cube e)))
      (ap pos (omega (arith, spread ((b + p) * cube y + b * cube s + p * cube e) 0 (omega (arith, within b H p F y e s lower (omega arith))))))
  cubes (no below) =
      let e = y - F in
      rw (more H y s lower, more y F e (omega arith))
      (more _ _ Q (spread _ (p * cube e) (under b H p F y e s lower (omega arith))))

  exact : Exact b h p t
  unfolding inertia
  exact = ap (λ z. pos 4 *ℤ z) (cubes (dec_lt y F)) ∙ ap pos (omega arith)

  rounded : 0 < area b h → IsInertia b h p t (flanged_inertia b h p t)
  unfolding flanged_inertia
  rounded there =
      let A>0 : 0 < A = omega arith in
      sym
      (ap (λ z. floor_of z (cube (2 * A))) exact
      ∙ ap pos
      (ap (λ n. 8 * (A * A) * (A * (inertia b h + inertia p t) + apart b h p t) / n) (omega arith)
      ∙ mul-div-mul_left (A * (inertia b h + inertia p t) + apart b h p t) A (omega (arith, mul-pos A>0 A>0))
      ∙ ap (λ n. (n + apart b h p t) / A) (mul_comm A (inertia b h + inertia p t))
      ∙ mul-add-div_right A>0 (inertia b h + inertia p t) (apart b h p t)))

-- ---- of a beam that is there

module _ {b h p t : ℕ} (flanged : Flanged b h p t) where
  deeper : t < h
  deeper = flanged.beam.above flanged.there

  pub is_exact : Exact b h p t
  is_exact = exact b h p t (omega (arith, deeper))

  pub is_inertia : IsInertia b h p t (flanged_inertia b h p t)
  is_inertia = rounded b h p t (omega (arith, deeper)) (mul-pos {m = b} {n = h} flanged.there (omega (arith, deeper)))
