-- What each kind's test says: the test's own parts, put together by the laws of `says-..`, so each law is one term.
--     holds     from a passed test to 01's range
--     passes    the other way
-- says_by_kind does the choice by kind once, over nine tests: it gives both the ranges and the fields not listed.
-- Assumes nothing.
use Prim.Native.Nat.{ℕ, ◌+◌, ◌*◌, ◌%◌, ◌/◌, ◌≤◌}
use mathlib.Core.Bool.{Bool, true, false, cond, ◌&&◌, false≢true}
use mathlib.Core.Logic.{◌⊎◌, inl, inr, ⊎_elim}
use mathlib.Core.Path.{◌≡◌, refl}
use native.Mathlib.Nat.{div-div-eq-div-mul}
use native.Mathlib.Omega.{arith}
use lib.Dec.{eqb}
use Rattle.numbers.specs.Tests.{Says, within}
use Rattle.numbers.proofs.Tests.{says_le, says_eq, says_and, says_and3, says_or, says_as, says_always, says_never}
use Rattle.records.specs.Kinds.{by_kind, unlisted_zero, changeable}
use Rattle.records.specs.Ranges.{sizes_ok, materials_ok, loads_ok, column_ok, sides_ok, columns_ok, span_ok, beam_ok, offset_ok, values_ok}
use Rattle.records.specs.Meaning.{In, Sizes, Materials, Loads, Column, Sides, Columns, Span, Beam, Offset, InRange, Zero, Changeable}
use Rattle.records.proofs.ByKind.{changeable_test}

-- ---- the forms of these tests

-- a choice between two ranges that no number is in both of
says_either : (t : Bool) {a b : Bool} {T P Q : Type 0} → Says t T → Says a P → Says b Q → (Q → T → ⊥) → Says (cond t a b) ((T × P) ⊎ Q)
says_either true s p q apart =
    record {
      holds = λ e. inl (s.holds refl, p.holds e);
      passes = ⊎_elim (λ h. p.passes h.1) (λ h. absurd (apart h (s.holds refl)));
    }
says_either false s p q apart =
    record {
      holds = λ e. inr (q.holds e);
      passes = ⊎_elim (λ h. absurd (false≢true (s.passes h.0))) (λ h. q.passes h);
    }

-- the same choice of a test and of what it says
says_pick : (t : Bool) {a b : Bool} {P Q : Type 0} → Says a P → Says b Q → Says (cond t a b) (cond t P Q)
says_pick true p q = p
says_pick false p q = q

-- ---- each kind's values

pub says_within : (lo hi x : ℕ) → Says (within lo hi x) (In lo hi x)
says_within lo hi x = says_and (says_le lo x) (says_le x hi)

pub says_sizes : (nx ny t : ℕ) → Says (sizes_ok nx ny t) (Sizes nx ny t)
unfolding sizes_ok
says_sizes nx ny t = says_and3 (says_within 1 12 nx) (says_within 1 12 ny) (says_within 90 500 t)

pub says_materials : (fc fy : ℕ) → Says (materials_ok fc fy) (Materials fc fy)
unfolding materials_ok
says_materials fc fy = says_and (says_within 20 60 fc) (says_or (says_eq fy 280) (says_or (says_eq fy 420) (says_eq fy 520)))

pub says_loads : (dead live : ℕ) → Says (loads_ok dead live) (Loads dead live)
unfolding loads_ok
says_loads dead live = says_and (says_within 1000 30000 dead) (says_le live 50000)

pub says_column : (x : ℕ) → Says (column_ok x) (Column x)
unfolding column_ok
says_column x = says_and (says_within 200 1500 x) (says_eq (x % 10) 0)

pub says_sides : (s : ℕ) → Says (sides_ok s) (Sides s)
unfolding sides_ok
says_sides s =
    says_as (λ h. (h.0, h.1, h.2.0, h.2.1, h.2.2)) (λ h. (h.0, h.1, (h.2, h.3, h.4)))
    (says_and3 (says_le s 170) (says_le (s % 4) 2) (says_and3 (says_le (s / 4 % 4) 2) (says_le (s / 16 % 4) 2) (says_le (s / 64 % 4) 2)))

pub says_columns : (cx cy sides : ℕ) → Says (columns_ok cx cy sides) (Columns cx cy sides)
unfolding columns_ok
says_columns cx cy sides = says_and3 (says_column cx) (says_column cy) (says_sides sides)

pub says_span : (x : ℕ) → Says (span_ok x) (Span x)
unfolding span_ok
says_span x = says_and (says_within 1000 12000 x) (says_eq (x % 20) 0)

pub says_beam : (width depth : ℕ) → Says (beam_ok width depth) (Beam width depth)
unfolding beam_ok
says_beam width depth =
    says_either (eqb width 0) (says_eq width 0) (says_eq depth 0)
    (says_and (says_within 150 1000 width) (says_within 91 1500 depth)) (λ h e. omega arith)

pub says_offset : (x y : ℕ) → Says (offset_ok x y) (Offset x y)
unfolding offset_ok
says_offset x y = says_and (says_le x 12000) (says_le y 12000)

-- ---- by kind

says_by_kind : (k : ℕ) {b1 b2 b3 b4 b5 b6 b7 b8 b9 : Bool} {P1 P2 P3 P4 P5 P6 P7 P8 P9 : Type 0}
    → Says b1 P1 → Says b2 P2 → Says b3 P3 → Says b4 P4 → Says b5 P5 → Says b6 P6 → Says b7 P7 → Says b8 P8 → Says b9 P9
    → Says (by_kind k b1 b2 b3 b4 b5 b6 b7 b8 b9 false) (by_kind k P1 P2 P3 P4 P5 P6 P7 P8 P9 ⊥)
says_by_kind k s1 s2 s3 s4 s5 s6 s7 s8 s9 =
    says_pick (eqb k 1) s1 (says_pick (eqb k 2) s2 (says_pick (eqb k 3) s3 (says_pick (eqb k 4) s4 (says_pick (eqb k 5) s5
    (says_pick (eqb k 6) s6 (says_pick (eqb k 7) s7 (says_pick (eqb k 8) s8 (says_pick (eqb k 9) s9 says_never))))))))

pub says_values : (k a b c : ℕ) → Says (values_ok k a b c) (InRange k a b c)
unfolding values_ok InRange
says_values k a b c =
    says_by_kind k (says_sizes a b c) (says_materials a b) (says_loads a b) (says_columns a b c) (says_span a) (says_span a)
    (says_beam a b) (says_beam a b) (says_offset a b)

pub says_zero : (k b c : ℕ) → Says (unlisted_zero k b c) (Zero k b c)
unfolding unlisted_zero Zero
says_zero k b c = says_by_kind k says_always a_and_b a_and_b says_always a_alone a_alone a_and_b a_and_b a_and_b
  where
    a_and_b : Says (eqb c 0) (c ≡ 0)
    a_and_b = says_eq c 0

    a_alone : Says (eqb b 0 && eqb c 0) ((b ≡ 0) × (c ≡ 0))
    a_alone = says_and (says_eq b 0) a_and_b

pub says_changeable : (k : ℕ) → Says (changeable k) (Changeable k)
says_changeable k = rw changeable_test (says_or (says_eq k 3) (says_within 5 9 k))

pub changeable_kind : (k : ℕ) → changeable k ≡ true → (3 ≤ k) × (k ≤ 9) × (k ≡ 4 → ⊥)
changeable_kind k h = ⊎_elim (λ e. omega arith) (λ r. omega arith) ((says_changeable k).holds h)

-- ---- "Sides = west + 4·east + 16·south + 64·north", each 0, 1 or 2

-- every such sum is in range, and its digits read back
pub sides_digits : (w e s n : ℕ) → w ≤ 2 → e ≤ 2 → s ≤ 2 → n ≤ 2 → let x = w + 4 * e + 16 * s + 64 * n in
    (sides_ok x ≡ true) × (x % 4 ≡ w) × (x / 4 % 4 ≡ e) × (x / 16 % 4 ≡ s) × (x / 64 % 4 ≡ n)
sides_digits w e s n hw he hs hn = ((says_sides _).passes (omega arith), omega arith, omega arith, omega arith, omega arith)

-- a number in range is such a sum
pub sides_sum : (x : ℕ) → sides_ok x ≡ true → x ≡ x % 4 + 4 * (x / 4 % 4) + 16 * (x / 16 % 4) + 64 * (x / 64 % 4)
sides_sum x h =
    let most : x ≤ 170 = ((says_sides x).holds h).0 in
    let east : x / 4 ≡ 4 * (x / 16) + x / 4 % 4 = omega (arith, div-div-eq-div-mul x 4 4) in
    let south : x / 16 ≡ 4 * (x / 64) + x / 16 % 4 = omega (arith, div-div-eq-div-mul x 16 4) in
    let north : x / 64 ≡ x / 64 % 4 = omega arith in
    omega arith
