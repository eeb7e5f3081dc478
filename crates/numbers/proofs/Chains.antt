-- The laws of a chain of checks.
--     answers              a number is answered exactly when it is given
--     given_one            one number is given
--     success              "success is 0": exactly where every statement holds
--     earlier, later       a chain after a chain: a number that the first gives stands, else the second decides
--     both_zero            a chain after a chain that answers 0: so does each
-- As code tries them, `if !test(..) { return number; }` or `if number != 0 { return number; }` of a chain before:
--     refused, passed      one check, whose test answered r; `search tries` closes a return after any number of these
--     stopped, went_on     one check, whose test is known
--     stands, decides      the chain before, which answered m
-- Assumes nothing.
use Prim.Native.Nat.{ℕ}
use mathlib.Core.Bool.{Bool, true, false, not, false≢true}
use mathlib.Core.List.{[], ◌∷◌, ◌++◌}
use mathlib.Core.Logic.{◌↔◌, inl, inr}
use mathlib.Core.Path.{◌≡◌, refl, sym, subst, ◌∙◌}
use native.Mathlib.Omega.{arith}
use borrow.Author.Tests.{not-true, not-false}
use Rattle.numbers.specs.Chains.{Chain, tried, GivenBy, Holds, Sound}
use Rattle.numbers.specs.Chains.Check.{◌unless◌says◌}
use Rattle.numbers.specs.Chains.Sound.{done, ◌then◌}

-- ---- what is answered is what is given

answered : {ks : Chain} → Sound ks → GivenBy ks (tried ks)
unfolding tried GivenBy
answered done = refl
answered (◌then◌ {ok = true} s rest) = inr (s.holds refl, answered rest)
answered (◌then◌ {ok = false} s rest) = inl (λ p. false≢true (s.passes p), refl)

pub given_one : (ks : Chain) {m n : ℕ} → GivenBy ks m → GivenBy ks n → m ≡ n
unfolding GivenBy
given_one [] a b = a ∙ sym b
given_one (k unless ok says P ∷ ks) (inl a) (inl b) = a.1 ∙ sym b.1
given_one (k unless ok says P ∷ ks) (inl a) (inr b) = absurd (a.0 b.0)
given_one (k unless ok says P ∷ ks) (inr a) (inl b) = absurd (b.0 a.0)
given_one (k unless ok says P ∷ ks) (inr a) (inr b) = given_one ks a.1 b.1

pub answers : {ks : Chain} → Sound ks → (n : ℕ) → (tried ks ≡ n) ↔ GivenBy ks n
answers {ks} s n = (λ e. subst (GivenBy ks) e (answered s), given_one ks (answered s))

-- ---- "success is 0"

pub success : {ks : Chain} → Sound ks → (tried ks ≡ 0) ↔ Holds ks
unfolding tried Holds
success done = (λ e. tt, λ h. refl)
success (◌then◌ {ok = true} s rest) = (λ e. (s.holds refl, (success rest).0 e), λ h. (success rest).1 h.1)
success (◌then◌ {ok = false} s rest) = (λ e. absurd (omega (arith, e)), λ h. absurd (false≢true (s.passes h.0)))

-- ---- a chain after a chain

infixr 5 ◌before◌
pub ◌before◌ : {xs ys : Chain} → Sound xs → Sound ys → Sound (xs ++ ys)
done before t = t
(s then rest) before t = s then (rest before t)

pub earlier : (xs ys : Chain) → (tried xs ≡ 0 → ⊥) → tried (xs ++ ys) ≡ tried xs
unfolding tried
earlier [] ys ne = absurd (ne refl)
earlier (n unless true says P ∷ xs) ys ne = earlier xs ys ne
earlier (n unless false says P ∷ xs) ys ne = refl

pub later : {xs : Chain} → Sound xs → (ys : Chain) → tried xs ≡ 0 → tried (xs ++ ys) ≡ tried ys
unfolding tried
later done ys z = refl
later (◌then◌ {ok = true} s rest) ys z = later rest ys z
later (◌then◌ {ok = false} s rest) ys z = absurd (omega (arith, z))

pub both_zero : {xs : Chain} → Sound xs → (ys : Chain) → tried (xs ++ ys) ≡ 0 → (tried xs ≡ 0) × (tried ys ≡ 0)
unfolding tried
both_zero done ys z = (refl, z)
both_zero (◌then◌ {ok = true} s rest) ys z = both_zero rest ys z
both_zero (◌then◌ {ok = false} s rest) ys z = absurd (omega (arith, z))

-- ---- as code tries them

pub stopped : (n : ℕ) (ok : Bool) (P : Type 0) (rest : Chain) → ok ≡ false → n ≡ tried (n unless ok says P ∷ rest)
unfolding tried
stopped n ok P rest e = rw e

pub went_on : (n : ℕ) (ok : Bool) (P : Type 0) (rest : Chain) {m : ℕ} → ok ≡ true → m ≡ tried rest → m ≡ tried (n unless ok says P ∷ rest)
unfolding tried
went_on n ok P rest e h = rw e h

pub refused : (n : ℕ) (ok : Bool) (P : Type 0) (rest : Chain) {r : Bool} → r ≡ ok → not r ≡ true → n ≡ tried (n unless ok says P ∷ rest)
refused n ok P rest {r} e t = stopped n ok P rest (sym e ∙ not-true r t)

pub passed : (n : ℕ) (ok : Bool) (P : Type 0) (rest : Chain) {r : Bool} {m : ℕ} → r ≡ ok → not r ≡ false → m ≡ tried rest → m ≡ tried (n unless ok says P ∷ rest)
passed n ok P rest {r} e t h = went_on n ok P rest (sym e ∙ not-false r t) h

pub ended : 0 ≡ tried []
unfolding tried
ended = refl

pub ruleset tries = (refused, passed, ended)

pub stands : (xs ys : Chain) {m : ℕ} → m ≡ tried xs → (m ≡ 0 → ⊥) → m ≡ tried (xs ++ ys)
stands xs ys e ne = e ∙ sym (earlier xs ys (λ z. ne (e ∙ z)))

pub decides : {xs : Chain} → Sound xs → (ys : Chain) {m n : ℕ} → m ≡ tried xs → m ≡ 0 → n ≡ tried ys → n ≡ tried (xs ++ ys)
decides s ys e z h = h ∙ sym (later s ys (sym e ∙ z))
