-- The record of a kind and index has a place of its own, inside the floor: the starts rise by the counts, so two kinds never overlap
-- (start_past), and any place, count or end is compared through it.
-- Assumes nothing.
use Prim.Native.Nat.{ℕ, zero, suc, ◌+◌, ◌*◌, ◌<◌, ◌≤◌}
use mathlib.Core.Logic.{⊎_elim}
use mathlib.Core.Path.{◌≡◌, ap}
use native.Mathlib.Decide.{dec_lt}
use native.Mathlib.Nat.{not-suc-le-zero, le_of_suc-le-suc, eq-or-lt_of_le}
use native.Mathlib.Omega.{arith}
use Rattle.numbers.proofs.Bounded.{◌⊕◌, ◌⊗◌, #}
use Rattle.records.specs.Kinds.{count_of, start_of, total}
use Rattle.records.specs.Asked.{Small}
use Rattle.records.proofs.ByKind.{by_kind_lem, past_kinds}

module _ (nx ny : ℕ) where
  -- a kind starts past all of an earlier kind
  pub start_past : (k k' : ℕ) → k < k' → start_of nx ny k + count_of nx ny k ≤ start_of nx ny k'
  unfolding start_of
  start_past k zero h = absurd (not-suc-le-zero h)
  start_past k (suc k') h =
      ⊎_elim
      (λ q. rw q (omega arith))
      (λ m. omega (arith, start_past k k' m))
      (eq-or-lt_of_le (le_of_suc-le-suc h))

  -- one place, one record
  pub one_place : (k i k' i' : ℕ) → i < count_of nx ny k → i' < count_of nx ny k' → start_of nx ny k + i ≡ start_of nx ny k' + i' → (k ≡ k') × (i ≡ i')
  one_place k i k' i' h h' e =
      elim (dec_lt k k') [
        | yes l ↦ absurd (omega (arith, start_past k k' l))
        | no l ↦
            elim (dec_lt k' k) [
              | yes l' ↦ absurd (omega (arith, start_past k' k l'))
              | no l' ↦
                  let q : k ≡ k' = omega arith in
                  (q, omega (arith, ap (λ (n : ℕ). start_of nx ny n) q))
            ]
      ]

  count_past : (k : ℕ) → 10 ≤ k → count_of nx ny k ≡ 0
  unfolding count_of
  count_past k h = past_kinds k _ _ _ _ _ _ _ _ _ _ h

  -- only kinds 1 to 9 have records
  pub counted_kind : (k i : ℕ) → i < count_of nx ny k → (1 ≤ k) × (k ≤ 9)
  unfolding count_of
  counted_kind zero i h = absurd (not-suc-le-zero h)
  counted_kind (suc k) i h =
      elim (dec_lt 9 (suc k)) [
        | yes l ↦ absurd (omega (arith, count_past (suc k) l))
        | no l ↦ (omega arith, omega arith)
      ]

  pub inside : (k i : ℕ) → i < count_of nx ny k → start_of nx ny k + i < total nx ny
  unfolding total
  inside k i h = let q = counted_kind k i h in omega (arith, start_past k 10 (omega arith))

  -- the table's second column added up
  pub total_is : total nx ny ≡ 6 + 2 * nx + 2 * ny + (nx + 1) * (ny + 1)
  unfolding total start_of count_of
  total_is = omega arith

  pub corners_most : Small nx ny → (nx + 1) * (ny + 1) ≤ 169
  corners_most small = (small.x ⊕ # 1) ⊗ (small.y ⊕ # 1)

  pub count_most : Small nx ny → (k : ℕ) → count_of nx ny k ≤ 169
  unfolding count_of
  count_most small =
      by_kind_lem (λ k. count_of nx ny k ≤ 169) (omega arith) (omega arith) (omega arith) (omega arith) (omega arith) (omega arith) (omega arith)
      (omega arith) (omega arith) (corners_most small) (λ k h. omega (arith, count_past k h))

  pub total_most : Small nx ny → total nx ny ≤ 223
  total_most small = rw total_is (omega (arith, corners_most small))
