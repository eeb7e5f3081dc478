-- The steel of a strip: by the cases of its width, of its area and of its bars; and that bars are asked for an area that is in range and not 0.
--     found, missing       what is known of the query's outcome by its case
-- Assumes nothing.
use Prim.Native.Nat.{ℕ, ◌≤◌}
use mathlib.Core.Bool.{Bool, true, false, cond}
use mathlib.Core.Path.{◌≡◌}
use native.Mathlib.Decide.{dec_lt}
use native.Mathlib.Nat.{le_trans, sub-le}
use native.Mathlib.Omega.{arith}
use lib.Dec.{eqb}
use borrow.Author.Tests.{eq-eqb, ne_eqb}
use Rattle.std.specs.Prelude.{Result, Ok, Err}
use Rattle.numbers.proofs.Bounded.{◌⊗◌, #}
use Rattle.numbers.proofs.Tests.{says_eq, by_test}
use Rattle.answers.specs.declared.Answer.{Answer}
use Rattle.answers.specs.declared.Refusal.{Refusal}
use Rattle.answers.specs.Answers.{answer, query_answer}
use Rattle.answers.proofs.Refusals.{positive}
use Rattle.bars.specs.declared.choice.Bars.{Bars}
use Rattle.bars.specs.Widths.{column_width}
use Rattle.bars.specs.Choice.{bars_for}
use Rattle.bars.specs.Asked.{Reinforced}
use Rattle.frames.specs.declared.span.Span.{Span}
use Rattle.steel.specs.declared.query.Query.{Query}
use Rattle.steel.specs.Query.{InRange}
use Rattle.steel.specs.Area.{Fits}
use Rattle.steel.specs.Steel.{steel_of}
use Rattle.steel.specs.Strips.{strip_of, strip_width, nothing, laid, reinforcement_of}
use Rattle.steel.proofs.Answers.{steel_answer}

-- ---- no strip is wider than its frame

pub width_most : (s : Span) (q : ℕ) → s.strip ≤ 12000 → s.width ≤ 12000 → strip_width s q ≤ 12000
unfolding strip_width column_width
width_most s q h w =
    by_test (λ (n : ℕ). n ≤ 12000) (says_eq (strip_of q) 0) (λ _. le_trans (sub-le s.strip _) h) (λ _. le_trans (sub-le s.width _) w)

-- ---- the query's outcome

pub found : (q : Query) {r : Result ℕ Refusal} {v : ℕ} → query_answer r ≡ steel_of q → r ≡ Ok v → answer 0 v ≡ steel_of q
found q h e = rw e at h

pub missing : {r : Result ℕ Refusal} {x : Refusal} → r ≡ Err x → ¬ ((query_answer r).refusal ≡ 0)
missing {x = x} e z = let w = rw e at z in omega (arith, positive x, w)

-- ---- the cases

module _ (q : Query) where
  pub no_width : q.b ≡ 0 → nothing ≡ reinforcement_of q
  unfolding reinforcement_of
  no_width z = rw (eq-eqb q.b 0 z)

  module _ {a : Answer} (wide : ¬ (q.b ≡ 0)) (e : a ≡ steel_of q) where
    pub no_area : ¬ (a.refusal ≡ 0) → nothing ≡ reinforcement_of q
    unfolding reinforcement_of
    no_area n = rw (ne_eqb q.b 0 wide, ← e, ne_eqb a.refusal 0 n)

    pub laid_is : a.refusal ≡ 0 → {b : Bars} → b ≡ bars_for q.b a.value q.t → laid a.value b ≡ reinforcement_of q
    unfolding reinforcement_of
    laid_is z eb = rw (ne_eqb q.b 0 wide, ← e, eq-eqb a.refusal 0 z, eb)

-- ---- an area that is found

-- the minimum is not 0
some_area : {q : Query} → InRange q → (As : ℕ) → Fits q As → 1 ≤ As
some_area {q} r As h =
    elim (dec_lt 0 As) [
      | yes p ↦ p
      | no n ↦
          let z : As ≡ 0 = omega (arith, n) in
          absurd (neither (eqb q.fy 280) (rw z at h.minimum)
          (λ k. omega (arith, k, # 2 ⊗ r.width.0 ⊗ r.thickness.0))
          (λ k. omega (arith, k, # 756 ⊗ r.width.0 ⊗ r.thickness.0)))
    ]
  where
    neither : (b : Bool) {P Q : Type 0} → cond b P Q → ¬ P → ¬ Q → ⊥
    neither true h n m = n h
    neither false h n m = m h

pub reinforced : (q : Query) {a : Answer} → a ≡ steel_of q → a.refusal ≡ 0 → Reinforced q.b a.value q.t
reinforced q {a} e z =
    let s = steel_answer q in
    let y : (steel_of q).refusal ≡ 0 = rw e at z in
    let r = (s.found.0 y).0 in
    record { width_most = r.width.1; area_least = rw e (some_area r _ (s.least y).holds); slab_most = r.thickness.1 }
