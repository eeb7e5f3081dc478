-- The slice afterwards, number by number (numbers: Written).
-- Assumes nothing.
use Prim.Native.Nat.{ℕ, ◌+◌, ◌*◌, ◌≤◌, ◌<◌}
use mathlib.Core.Bool.{Bool, cond}
use mathlib.Core.List.{List}
use mathlib.Core.Path.{◌≡◌}
use lib.ListN.{length, get_or}
use Rattle.numbers.proofs.Written.{length_written, written_past, written_at}
use Rattle.plan.specs.declared.read.Bays.{Bays}
use Rattle.supports.specs.Governing.{support_width, support_count, support_at, governed}
use Rattle.supports.proofs.Faces.{support_full}

module _ (b : Bays) (s : ℕ → Bool) (t g : List ℕ) (room : support_count b * support_width ≤ length g) where
  pub length_governed : length (governed b s t g) ≡ length g
  unfolding governed
  length_governed = length_written support_width s (support_at b t) (support_full b t) (support_count b) g room

  -- what lies past the supports is as it was
  pub governed_past : (i : ℕ) → support_count b * support_width ≤ i → get_or (governed b s t g) i 0 ≡ get_or g i 0
  unfolding governed
  governed_past = written_past support_width s (support_at b t) (support_full b t) (support_count b) g room

  -- number n of support k: worked out from the table where s picks the support, else as it was
  pub governed_at : (k n : ℕ) → k < support_count b → n < support_width
      → get_or (governed b s t g) (k * support_width + n) 0 ≡ cond (s k) (get_or (support_at b t k) n 0) (get_or g (k * support_width + n) 0)
  unfolding governed
  governed_at = written_at support_width s (support_at b t) (support_full b t) (support_count b) g room
