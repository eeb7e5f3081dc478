-- What an area carries, c(As) = 9·As·fy·(block − 10·As·fy), bends down: its tangent at an area a lies above it. With x = a·fy and k = (As − a)·fy the
-- tangent is 90·k² higher at As. So no area from a on carries the load before the tangent does.
-- Assumes nothing.
use Prim.Native.Nat.{ℕ, ◌+◌, ◌-◌, ◌*◌, ◌≤◌, ◌<◌}
use mathlib.Core.Bool.{true}
use mathlib.Core.Path.{◌≡◌}
use native.Mathlib.Nat.{mul_assoc, mul-pos, mul-le-mul_right}
use native.Mathlib.Omega.{arith}
use borrow.Author.Tests.{leb-true}
use Rattle.numbers.specs.Rounding.{up}
use Rattle.numbers.proofs.Rounded.{up_first}
use Rattle.steel.specs.Search.{carries}

-- what an area of the tension x carries, and the tangent's slope there, as the code computes them
abbrev pub carried : ℕ → ℕ → ℕ
carried block x = 9 * x * (block - 10 * x)

abbrev pub slope : ℕ → ℕ → ℕ → ℕ
slope fy block x = 9 * fy * (block - 20 * x)

bends : (x k rest : ℕ) → (x + k) * (10 * (x + k) + rest) ≤ x * (10 * x + 20 * k + rest) + k * (20 * k + rest)
bends x k rest = omega arith

tangent : (fy block a n : ℕ) → 20 * ((a + n) * fy) ≤ block
    → carried block ((a + n) * fy) ≤ carried block (a * fy) + n * slope fy block (a * fy)
tangent fy block a n h =
    let e : block - 10 * ((a + n) * fy) ≡ 10 * (a * fy + n * fy) + (block - 20 * ((a + n) * fy)) = omega arith in
    let f : block - 10 * (a * fy) ≡ 10 * (a * fy) + 20 * (n * fy) + (block - 20 * ((a + n) * fy)) = omega arith in
    let g : block - 20 * (a * fy) ≡ 20 * (n * fy) + (block - 20 * ((a + n) * fy)) = omega arith in
    rw (e, f, g) (omega (arith, bends (a * fy) (n * fy) (block - 20 * ((a + n) * fy))))

-- 01's order of factors
pub by_tension : (fy block As : ℕ) → carried block (As * fy) ≡ 9 * As * fy * (block - 10 * As * fy)
by_tension fy block As = simp mul_assoc

-- an area from a on, left of the top, that carries the load is no smaller than where the tangent at a meets it
pub not_before : (fy block load a As : ℕ) → 0 < fy → 20 * As * fy < block → a ≤ As → carries fy block load As ≡ true
    → a + up (load - carried block (a * fy)) (slope fy block (a * fy)) ≤ As
not_before fy block load a As pos left h e =
    let n : a + (As - a) ≡ As = omega arith in
    let reached : load ≤ carried block (As * fy) = rw (by_tension fy block As) (leb-true _ _ e) in
    let under : carried block (As * fy) ≤ carried block (a * fy) + (As - a) * slope fy block (a * fy) =
    rw n at (tangent fy block a (As - a) (rw n (omega arith))) in
    let rising : 0 < slope fy block (a * fy) = mul-pos (omega arith) (omega (arith, mul-le-mul_right fy h)) in
    omega (arith, up_first (load - carried block (a * fy)) (As - a) rising (omega (arith, reached, under)))
