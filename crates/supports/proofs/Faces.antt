-- What a support has, by where it stands on its line: at its start, at its end, or between two spans.
-- Assumes nothing.
use Prim.Native.Nat.{ℕ, ◌+◌, ◌-◌, ◌≤◌}
use mathlib.Core.List.{List}
use mathlib.Core.Path.{◌≡◌, refl, ◌∙◌}
use native.Mathlib.Nat.{le_refl}
use lib.ListN.{length, get_or}
use borrow.Author.Tests.{eq-eqb, ne_eqb}
use Rattle.numbers.proofs.Tests.{by_test, by_says, says_eq, says_lt}
use Rattle.plan.specs.declared.read.Bays.{Bays}
use Rattle.supports.specs.Governing.{support_width, low_end_of, high_end_of, governs, support_on, support_at}

module _ (t : List ℕ) (first n s : ℕ) where
  pub at_start : {r : List ℕ} → s ≡ 0 → r ≡ low_end_of t first → r ≡ support_on t first n s
  unfolding support_on
  at_start e q = q ∙ rw (eq-eqb s 0 e)

  pub at_end : {r : List ℕ} → (s ≡ 0 → ⊥) → s ≡ n → r ≡ high_end_of t (first + s - 1) → r ≡ support_on t first n s
  unfolding support_on
  at_end z e q = q ∙ rw (ne_eqb s 0 z, eq-eqb s n e)

  pub between : {lower higher r : List ℕ} → (s ≡ 0 → ⊥) → (s ≡ n → ⊥) → lower ≡ high_end_of t (first + s - 1) → higher ≡ low_end_of t (first + s)
      → r ≡ governs lower higher → r ≡ support_on t first n s
  unfolding support_on
  between z e el eh q = q ∙ rw (el, eh, ne_eqb s 0 z, ne_eqb s n e)

-- it stands at the start of a line of n spans, at its end or between
pub by_stand : (s n : ℕ) {G : Type 0} → (s ≡ 0 → G) → ((s ≡ 0 → ⊥) → s ≡ n → G) → ((s ≡ 0 → ⊥) → (s ≡ n → ⊥) → G) → G
by_stand s n start end inner = by_says (says_eq s 0) start (λ z. by_says (says_eq s n) (end z) (inner z))

-- five numbers
length_governs : (lower higher : List ℕ) → length lower ≡ 5 → length higher ≡ 5 → length (governs lower higher) ≡ 5
length_governs lower higher el eh = by_test (λ (r : List ℕ). length r ≡ 5) (says_lt (get_or lower 0 0) (get_or higher 0 0)) (λ o. eh) (λ o. el)

pub length_on : (t : List ℕ) (first n s : ℕ) → length (support_on t first n s) ≡ 5
unfolding support_on
length_on t first n s =
    let Five : List ℕ → Type 0 = λ r. length r ≡ 5 in
    by_test Five (says_eq s 0) (λ z. refl)
    (λ z. by_test Five (says_eq s n) (λ e. refl) (λ e. length_governs (high_end_of t (first + s - 1)) (low_end_of t (first + s)) refl refl))

pub support_full : (b : Bays) (t : List ℕ) (k : ℕ) → support_width ≤ length (support_at b t k)
support_full b t k = rw (length_on t _ _ _) (le_refl 5)
