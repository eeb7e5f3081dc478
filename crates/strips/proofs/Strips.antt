-- A section total between the strips: no part exceeds what it is a part of, and nothing is lost.
-- Assumes nothing.
use mathlib.Core.Path.{◌≡◌}
use Prim.Native.Nat.{ℕ, ◌+◌, ◌≤◌}
use native.Mathlib.Omega.{arith}
use Rattle.numbers.proofs.Rounded.{share≤}
use Rattle.strips.specs.Strips.{share, beam_share, split}

pub beam≤ : (column A : ℕ) → A ≤ 10000 → beam_share column A ≤ column
unfolding beam_share
beam≤ column A a = share≤ column _ (omega arith)

-- "Rounding both strips apart loses a unit": as the rest, they lose none
pub split_whole : (total column A : ℕ) → column ≤ total → A ≤ 10000
    → (split total column A).middle + (split total column A).beam + (split total column A).slab ≡ total
unfolding split
split_whole total column A c a = omega (arith, beam≤ column A a)

-- and so with either column strip, evenly or by part
pub strips_whole : (total n d A : ℕ) → n ≤ d → A ≤ 10000
    → (split total (share total n d) A).middle + (split total (share total n d) A).beam + (split total (share total n d) A).slab ≡ total
strips_whole total n d A h a = split_whole total (share total n d) A (share≤ total n h) a
