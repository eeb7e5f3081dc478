-- The verdict is the one number that says which limits are broken.
--     broken, broken_one     the verdict's digits are the limits, and no other number's are
--     clear_is, says_clear   it is 0 exactly where no limit is broken, and the test of it says so
-- Assumes nothing.
use Prim.Native.Nat.{ℕ, ◌/◌, ◌%◌}
use mathlib.Core.List.{List}
use mathlib.Core.Logic.{◌↔◌}
use mathlib.Core.Path.{◌≡◌, subst}
use native.Mathlib.Omega.{arith}
use Rattle.numbers.specs.Tests.{Says}
use Rattle.numbers.proofs.Tests.{says_eq, says_as}
use Rattle.floor.specs.Refusal.{refusal}
use Rattle.limits.specs.declared.Limit.{Limit}
use Rattle.limits.specs.declared.Limit.TheVariants.{Few, Slender, Uneven, Astray, Heavy, Unbalanced, Thin}
use Rattle.limits.specs.Limits.{is_broken, verdict, is_clear}
use Rattle.limits.specs.Meaning.{number, Broken, Clear}
use Rattle.limits.proofs.Digits.{digits, sum_most, says_digit, same_digit, same_digits}
use Rattle.limits.proofs.Places.{says_limit}

pub broken : (f : List ℕ) → refusal f ≡ 0 → Broken f (verdict f)
unfolding verdict
broken f e = record { parts = λ l. says_digit (says_limit f e l) (digits (is_broken f) l); most = sum_most (is_broken f) }

-- no second number says what is broken
pub broken_one : {f : List ℕ} {v w : ℕ} → Broken f v → Broken f w → v ≡ w
broken_one {v = v} {w} p q = same_digits p.most q.most (λ l. same_digit (v / number l) (w / number l) (p.parts l) (q.parts l))

-- 0 says that nothing is broken, and only 0 does
no_digit : (l : Limit) → ¬ (0 / number l % 2 ≡ 1)
no_digit Few e = omega (arith, e)
no_digit Slender e = omega (arith, e)
no_digit Uneven e = omega (arith, e)
no_digit Astray e = omega (arith, e)
no_digit Heavy e = omega (arith, e)
no_digit Unbalanced e = omega (arith, e)
no_digit Thin e = omega (arith, e)

nothing : {f : List ℕ} → Broken f 0 → Clear f
nothing b l h = no_digit l ((b.parts l).1 h)

zero_says : {f : List ℕ} → Clear f → Broken f 0
zero_says n = record { parts = λ l. (λ e. absurd (no_digit l e), λ h. absurd (n l h)); most = omega arith }

pub clear_is : {f : List ℕ} {v : ℕ} → Broken f v → (v ≡ 0) ↔ Clear f
clear_is {f} b = (λ z. nothing (subst (Broken f) z b), λ n. broken_one b (zero_says n))

pub says_clear : (f : List ℕ) → refusal f ≡ 0 → Says (is_clear f) (Clear f)
says_clear f e = let c = clear_is (broken f e) in says_as c.0 c.1 (says_eq (verdict f) 0)
