-- The least area over any limits. An edition of the code enters by the numbers of `Limits` alone: the moment's two, and the areas that its
-- minimum and its strain limit come to.
-- Assumes nothing.
use Rattle.std.specs.Prelude.{ℕ, zero, suc, ◌-◌, ◌*◌, ◌≤◌, Bool, cond, leb, ltb, pos, ◌-ℤ◌, ◌*ℤ◌, ◌≤ℤ◌}
use Rattle.answers.specs.declared.Answer.{Answer}
use Rattle.answers.specs.Answers.{answer}
use Rattle.steel.specs.declared.search.Limits.{Limits}

-- ---- what is asked of an area

-- the moment is carried, over the integers: what is in the brackets may be negative
abbrev pub Carries : ℕ → ℕ → ℕ → ℕ → Type 0
Carries fy block load As = pos load ≤ℤ (pos (9 * As * fy) *ℤ (pos block -ℤ pos (10 * As * fy)))

pub record Within (l : Limits) (As : ℕ) : Type 0 where
  pub moment : Carries l.fy l.block l.load As
  pub minimum : l.least ≤ As
  pub strain : As ≤ l.most

-- ---- the number that it comes to

-- the moment is carried, where what is in the brackets is not negative
abbrev pub carries : ℕ → ℕ → ℕ → ℕ → Bool
carries fy block load As = leb load (9 * As * fy * (block - 10 * As * fy))

-- the first of the n numbers from k on that passes the test; the number after them where none does
unfoldable pub first : (ℕ → Bool) → ℕ → ℕ → ℕ
first p zero k = k
first p (suc n) k = cond (p k) k (first p n (suc k))

unfoldable pub first_within : Limits → ℕ
first_within l = first (carries l.fy l.block l.load) (suc l.most - l.least) l.least

unfoldable pub least_within : Limits → Answer
least_within l = cond (ltb l.most (first_within l)) (answer 12 0) (answer 0 (first_within l))
