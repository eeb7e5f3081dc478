-- The climb from the least area: it never passes an area within the limits that carries the moment, so the first one that it meets is the answer,
-- and where it passes the largest area there is none.
-- Assumes nothing.
use Prim.Native.Nat.{ℕ, suc, ◌+◌, ◌-◌, ◌*◌, ◌≤◌, ◌<◌}
use mathlib.Core.Bool.{true}
use mathlib.Core.Path.{◌≡◌}
use native.Mathlib.Decide.{dec_lt}
use native.Mathlib.Nat.{mul-le-mul_left, le-div_iff_mul-le}
use native.Mathlib.Omega.{arith}
use borrow.Author.Tests.{le-leb, lt-ltb, le-ltb}
use Rattle.numbers.specs.Rounding.{up}
use Rattle.numbers.proofs.Rounded.{up_first}
use Rattle.answers.specs.Answers.{answer}
use Rattle.steel.specs.declared.search.Limits.{Limits}
use Rattle.steel.specs.Asked.{Searchable}
use Rattle.steel.specs.Search.{carries, first_within, least_within}
use Rattle.steel.proofs.First.{First, first_one}
use Rattle.steel.proofs.Tangent.{carried, slope, by_tension, not_before}
use Rattle.steel.proofs.Within.{left, is_first}

-- no area within the limits, below this one, carries the moment
abbrev pub Passed : Limits → ℕ → Type 0
Passed l area = (As : ℕ) → l.least ≤ As → As ≤ l.most → As < area → ¬ (carries l.fy l.block l.load As ≡ true)

-- a step by a quotient that is rounded up goes on where there is anything to divide, and no further than that
pub goes_on : (most area n d : ℕ) → area ≤ most → 0 < d → 0 < n → suc most - (area + up n d) < suc most - area
goes_on most area n d h pos wanting = let step : 0 < up n d = (le-div_iff_mul-le pos).1 (omega arith) in omega arith

pub step_most : (n : ℕ) {d : ℕ} → 0 < d → up n d ≤ n
step_most n pos = up_first n n pos (omega (arith, mul-le-mul_left n pos))

module _ {l : Limits} (s : Searchable l) {area : ℕ} (passed : Passed l area) where
  -- on to where the tangent meets the load
  pub on : Passed l (area + up (l.load - carried l.block (area * l.fy)) (slope l.fy l.block (area * l.fy)))
  on As h g below e =
      elim (dec_lt As area) [
        | yes k ↦ passed As h g k e
        | no k ↦ absurd (omega (arith, below, not_before l.fy l.block l.load area As s.grade.0 (left s As g) (omega arith) e))
      ]

  pub met : l.least ≤ area → area ≤ l.most → l.load ≤ carried l.block (area * l.fy) → answer 0 area ≡ least_within l
  unfolding least_within
  met from h m =
      let here : First (carries l.fy l.block l.load) (suc l.most - l.least) l.least area =
      record {
        from = from;
        upto = omega arith;
        below = λ As k g. passed As k (omega arith) g;
        passes = λ k. le-leb l.load _ (rw (← by_tension l.fy l.block area) m);
      } in
      rw (first_one (is_first s) here, le-ltb l.most area h)

  pub none : l.most < area → answer 12 0 ≡ least_within l
  unfolding least_within
  none h =
      let past : l.most < first_within l =
      elim (dec_lt l.most (first_within l)) [
        | yes k ↦ k
        | no k ↦ absurd (passed (first_within l) (is_first s).from (omega arith) (omega arith) ((is_first s).passes (omega (arith, (is_first s).from))))
      ] in
      rw (lt-ltb l.most (first_within l) past)
