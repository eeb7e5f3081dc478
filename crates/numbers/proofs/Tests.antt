-- What a test says, by its form, and the laws of a loop that stops at the first number whose test answers w.
-- One text serves "every" (w false) and "some" (w true): a loop that stops early and one that runs to its end differ in w alone.
--     none, more, found, done     the loop's four places: entry, one turn more, an early answer, its end
--     until_same                  the same loop, with tests that answer the same
--     every, at, intro            a test of every number, taken apart and put together
--     says-..                     the parts of a test: a law of meaning is one term of these
--     by_test, by_says, fails     a test whose meaning is known, put to use
--     says_one                    two tests of one meaning
-- Assumes nothing.
use mathlib.Core.Bool.{Bool, true, false, not, cond, ◌||◌, ◌&&◌, false≢true}
use mathlib.Core.Path.{◌≡◌, refl, sym, subst, ◌∙◌}
use mathlib.Core.Logic.{◌⊎◌, ◌↔◌, inl, inr, ⊎_elim}
use Prim.Native.Nat.{ℕ, zero, suc, ◌+◌, ◌<◌, ◌≤◌}
use native.Mathlib.Nat.{not-suc-le-zero}
use native.Mathlib.Numerals.{add-one}
use native.Mathlib.Decide.{dec_lt}
use native.Mathlib.Omega.{arith}
use lib.Dec.{eqb, ltb, leb}
use borrow.Author.Tests.{not-true, ltb-true, leb-true, eqb-true, lt-ltb, le-leb, eq-eqb}
use Rattle.numbers.specs.Tests.{joined, until, all, some, All, Some, same, Says}

-- ---- the loop

joined_left : (w b : Bool) → joined w w b ≡ w
joined_left true b = refl
joined_left false b = refl

joined_right : (w a : Bool) → joined w a w ≡ w
joined_right true true = refl
joined_right true false = refl
joined_right false true = refl
joined_right false false = refl

joined_other : (w : Bool) → joined w (not w) (not w) ≡ not w
joined_other true = refl
joined_other false = refl

pub none : (w : Bool) (p : ℕ → Bool) → until w 0 p ≡ not w
unfolding until
none w p = refl

pub more : (w : Bool) (k : ℕ) (p : ℕ → Bool) → until w k p ≡ not w → p k ≡ not w → until w (k + 1) p ≡ not w
unfolding until
more w k p h e = rw (add-one, h, e) (joined_other w)

pub found : (w : Bool) (n k : ℕ) (p : ℕ → Bool) → k < n → p k ≡ w → until w n p ≡ w
unfolding until
found w zero k p l e = absurd (not-suc-le-zero l)
found w (suc n) k p l e =
    elim (dec_lt k n) [
      | yes m ↦ rw (found w n k p m e) (joined_left w (p n))
      | no m ↦ let q : n ≡ k = omega arith in rw (q, e) (joined_right w (until w k p))
    ]

pub done : (w : Bool) (k n : ℕ) (p : ℕ → Bool) → k ≤ n → n ≤ k → until w k p ≡ not w → until w n p ≡ not w
done w k n p h l e = let q : k ≡ n = omega arith in rw q at e

-- tests that answer the same below n
pub until_same : (w : Bool) (n : ℕ) (p q : ℕ → Bool) → All n (λ k. p k ≡ q k) → until w n p ≡ until w n q
unfolding until
until_same w zero p q h = refl
until_same w (suc n) p q h = rw (until_same w n p q (λ k l. h k (omega arith)), h n (omega arith))

-- ---- every number below n

pub every : (w : Bool) (n : ℕ) (p : ℕ → Bool) → All n (λ k. p k ≡ not w) → until w n p ≡ not w
every w zero p h = none w p
every w (suc n) p h = rw (← add-one n) (more w n p (every w n p (λ k l. h k (omega arith))) (h n (omega arith)))

pub intro : (n : ℕ) (p : ℕ → Bool) → All n (λ k. p k ≡ true) → all n p ≡ true
intro = every false

-- ---- what a test says

pub says_lt : (a b : ℕ) → Says (ltb a b) (a < b)
says_lt a b = record { holds = ltb-true a b; passes = lt-ltb a b }

pub says_le : (a b : ℕ) → Says (leb a b) (a ≤ b)
says_le a b = record { holds = leb-true a b; passes = le-leb a b }

pub says_eq : (a b : ℕ) → Says (eqb a b) (a ≡ b)
says_eq a b = record { holds = eqb-true a b; passes = eq-eqb a b }

-- the same test under another name for what it says
pub says_as : {b : Bool} {P Q : Type 0} → (P → Q) → (Q → P) → Says b P → Says b Q
says_as f g s = record { holds = λ e. f (s.holds e); passes = λ q. s.passes (g q) }

pub says_or : {a b : Bool} {P Q : Type 0} → Says a P → Says b Q → Says (a || b) (P ⊎ Q)
says_or {a} {b} {P} {Q} p q =
    record {
      holds = one a b p.holds q.holds;
      passes = ⊎_elim (λ h. rw (p.passes h)) (λ h. rw (q.passes h) (joined_right true a));
    }
  where
    one : (a b : Bool) → (a ≡ true → P) → (b ≡ true → Q) → (a || b) ≡ true → P ⊎ Q
    one true b f g e = inl (f refl)
    one false b f g e = inr (g e)

pub says_and : {a b : Bool} {P Q : Type 0} → Says a P → Says b Q → Says (a && b) (P × Q)
says_and {a} {b} {P} {Q} p q =
    record { holds = both a b p.holds q.holds; passes = λ h. rw (p.passes h.0, q.passes h.1) }
  where
    both : (a b : Bool) → (a ≡ true → P) → (b ≡ true → Q) → (a && b) ≡ true → P × Q
    both true b f g e = (f refl, g e)
    both false b f g e = absurd (false≢true e)

pub says_not : {b : Bool} {P : Type 0} → Says b P → Says (not b) (P → ⊥)
says_not {b} {P} s =
    record {
      holds = λ e p. false≢true (sym (not-true b e) ∙ s.passes p);
      passes = λ q. fails b (λ e. q (s.holds e));
    }
  where
    fails : (b : Bool) → (b ≡ true → ⊥) → not b ≡ true
    fails true q = absurd (q refl)
    fails false q = refl

pub says_and3 : {a b c : Bool} {P Q R : Type 0} → Says a P → Says b Q → Says c R → Says (a && (b && c)) (P × Q × R)
says_and3 p q r = says_as (λ h. (h.0, h.1.0, h.1.1)) (λ h. (h.0, (h.1, h.2))) (says_and p (says_and q r))

pub says_always : Says true Unit
says_always = record { holds = λ e. tt; passes = λ u. refl }

pub says_never : Says false ⊥
says_never = record { holds = false≢true; passes = λ u. absurd u }

-- two tests that agree say that either meaning holds where the other does
pub says_same : {a b : Bool} {P Q : Type 0} → Says a P → Says b Q → Says (same a b) (P ↔ Q)
says_same {a = true} p q =
    record { holds = λ e. (λ h. q.holds e, λ h. p.holds refl); passes = λ h. q.passes (h.0 (p.holds refl)) }
says_same {a = false} p q =
    says_as (λ n. (λ h. absurd (false≢true (p.passes h)), λ h. absurd (n h))) (λ h k. false≢true (p.passes (h.1 k))) (says_not q)

-- where the meaning does not hold the test is false
pub fails : {b : Bool} {P : Type 0} → Says b P → (P → ⊥) → b ≡ false
fails s q = not-true _ ((says_not s).passes q)

-- two tests that say the same are equal
pub says_one : {a b : Bool} {P : Type 0} → Says a P → Says b P → a ≡ b
says_one {a = true} p q = sym (q.passes (p.holds refl))
says_one {a = false} p q = sym (fails q (λ h. false≢true (p.passes h)))

-- what is chosen by a test has G if either choice has, given what the test said
pub by_test : {b : Bool} {P A : Type 0} {x y : A} (G : A → Type 0) → Says b P → (P → G x) → ((P → ⊥) → G y) → G (cond b x y)
by_test {b = true} G s to else = to (s.holds refl)
by_test {b = false} G s to else = else (λ p. false≢true (s.passes p))

-- what a test decides: P holds or not
pub by_says : {b : Bool} {P G : Type 0} → Says b P → (P → G) → ((P → ⊥) → G) → G
by_says {G = G} s to else = by_test {x = true} {y = true} (λ _. G) s to else

-- one more number: below n, or n itself
below_suc : {n : ℕ} (P : ℕ → Type 0) → All n P → P n → All (suc n) P
below_suc {n} P h q k l =
    elim (dec_lt k n) [
      | yes m ↦ h k m
      | no m ↦ let e : n ≡ k = omega arith in subst P e q
    ]

pub says_all : (n : ℕ) {p : ℕ → Bool} {P : ℕ → Type 0} → ((k : ℕ) → Says (p k) (P k)) → Says (all n p) (All n P)
unfolding until
says_all zero h = record { holds = λ e k l. absurd (not-suc-le-zero l); passes = λ q. refl }
says_all (suc n) {p} {P} h =
    says_as (λ q. below_suc P q.0 q.1) (λ q. (λ k l. q k (omega arith), q n (omega arith))) (says_and (says_all n h) (h n))

pub says_some : (n : ℕ) {p : ℕ → Bool} {P : ℕ → Type 0} → ((k : ℕ) → Says (p k) (P k)) → Says (some n p) (Some n P)
unfolding until
says_some zero h = record { holds = λ e. absurd (false≢true e); passes = λ s. absurd (not-suc-le-zero s.1) }
says_some (suc n) {p} {P} h = says_as wider narrower (says_or (says_some n h) (h n))
  where
    wider : Some n P ⊎ P n → Some (suc n) P
    wider (inl s) = (s.0, omega (arith, s.1), s.2)
    wider (inr q) = (n, omega arith, q)

    narrower : Some (suc n) P → Some n P ⊎ P n
    narrower s =
        elim (dec_lt s.0 n) [
          | yes l ↦ inl (s.0, l, s.2)
          | no l ↦ let q : s.0 ≡ n = omega (arith, s.1) in inr (subst P q s.2)
        ]

-- a plain test passes exactly where it is true
pub says_itself : (b : Bool) → Says b (b ≡ true)
says_itself b = record { holds = λ e. e; passes = λ e. e }

-- a test of every number, at one of them
pub at : (n k : ℕ) (p : ℕ → Bool) → all n p ≡ true → k < n → p k ≡ true
at n k p h l = (says_all n (λ j. says_itself (p j))).holds h k l
