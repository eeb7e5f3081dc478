-- Four bytes read as the number that they were made of: each division by 256 takes one of them off.
-- Assumes nothing.
use Prim.Native.Nat.{ℕ, ◌+◌, ◌*◌, ◌/◌, ◌%◌, ◌<◌}
use mathlib.Core.Path.{◌≡◌}
use native.Mathlib.Nat.{div-add-mod'}
use native.Mathlib.Omega.{arith}
use Rattle.plan.specs.Fields.{le32}
use Rattle.bars.specs.Entries.{four_bytes}

pub reads_back : (n : ℕ) → n < 4294967296 → le32 (four_bytes n) 0 ≡ n
unfolding le32
reads_back n h = joined n (n / 256) (n / 65536) (n / 16777216) (omega arith) (omega arith) (omega (arith, h)) (omega arith)
  where
    joined : (n a b c : ℕ) → b ≡ a / 256 → c ≡ b / 256 → c < 256 → n / 256 ≡ a → n % 256 + 256 * (a % 256) + 65536 * (b % 256) + 16777216 * (c % 256) ≡ n
    joined n a b c eb ec few ea =
        let last : c % 256 ≡ c = omega (arith, few) in
        omega (arith, last, div-add-mod' n 256, div-add-mod' a 256, div-add-mod' b 256, ea, eb, ec)
