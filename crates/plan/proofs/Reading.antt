-- A record that is there has its field's value, and one that is not reads 0.
--     there, absent               of a floor
--     read                        the same for code that has read the bays and a count
--     one_record                  of a kind that stands at the same place in every floor
--     bays_most                   a floor is small, whatever its first record has
-- Assumes nothing.
use Prim.Native.Nat.{ℕ, zero, suc, ◌+◌, ◌*◌, ◌-◌, ◌<◌, ◌≤◌}
use mathlib.Core.List.{List}
use mathlib.Core.Path.{◌≡◌}
use native.Mathlib.Omega.{arith}
use borrow.Author.Tests.{lt-ltb, le-ltb}
use Rattle.numbers.proofs.Tests.{by_test, says_le}
use Rattle.records.specs.Kinds.{count_of, start_of}
use Rattle.plan.specs.declared.ways.Way.{Way}
use Rattle.plan.specs.declared.ways.Way.TheVariants.{X, Y}
use Rattle.plan.specs.Ways.{pick}
use Rattle.plan.specs.Asked.{Single}
use Rattle.plan.specs.Fields.{le32, part_at}
use Rattle.plan.specs.Plan.{up_to_twelve, bays, many, start, value}

module _ (f : List ℕ) (k i part : ℕ) where
  pub there : i < many f k → value f k i part ≡ part_at f (start f k + i) part
  unfolding value
  there h = rw (lt-ltb i (many f k) h)

  pub absent : many f k ≤ i → value f k i part ≡ 0
  unfolding value
  absent h = rw (le-ltb i (many f k) h)

module _ (f : List ℕ) (k i part nx ny n : ℕ) (ex : nx ≡ bays f X) (ey : ny ≡ bays f Y) (en : n ≡ count_of nx ny k) where
  counted : n ≡ many f k
  counted = cc

  pub read : i < n → (s r : ℕ) → s ≡ start_of nx ny k → r ≡ le32 f ((s + i) * 16 + 4 * part) → r ≡ value f k i part
  read h s r es er = cc (there f k i part (omega (arith, counted)))

-- kinds 1 to 4 have one record each, and nothing before them depends on the bays
module _ (f : List ℕ) where
  pub one_record : (k : ℕ) {part r : ℕ} → Single k part → r ≡ part_at f (k - 1) part → r ≡ value f k 0 part
  unfolding value count_of start_of
  one_record (suc zero) h e = e
  one_record (suc (suc zero)) h e = e
  one_record (suc (suc (suc zero))) h e = e
  one_record (suc (suc (suc (suc zero)))) h e = e
  one_record zero h e = absurd (omega (arith, h.least))
  one_record (suc (suc (suc (suc (suc k))))) h e = absurd (omega (arith, h.most))

twelve_most : (n : ℕ) → up_to_twelve n ≤ 12
twelve_most n = by_test {x = n} {y = 0} (λ (m : ℕ). m ≤ 12) (says_le n 12) (λ h. h) (λ h. omega arith)

pub bays_most : (f : List ℕ) (d : Way) → bays f d ≤ 12
unfolding bays
bays_most f d = twelve_most (pick d (part_at f 0 1) (part_at f 0 2))
