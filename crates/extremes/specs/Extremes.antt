-- Whether some pair of values of two lists lies far apart: limit 2 asks it of the spans of the two directions, limit 32 of p and q.
-- Assumes nothing.
use Rattle.std.specs.Prelude.{ℕ, ◌*◌, ◌<◌, Bool, ◌||◌, List, ◌≡◌, ltb, get_or}
use Rattle.numbers.specs.Extremes.{apart, most_of, least_of}
use Rattle.plan.specs.declared.ways.Way.{Way}
use Rattle.plan.specs.Ways.{across}
use Rattle.plan.specs.Plan.{span, last_line}
use Rattle.lines.specs.Lines.{pair_alpha}
use Rattle.lines.specs.Rows.{pair_at}
use Rattle.limits.specs.Limits.{some_pair}
use Rattle.extremes.specs.declared.Ends.{Ends}

-- of some value among the first n of a and some value among the first m of b, one exceeds k times the other
unfoldable pub apart_some : ℕ → List ℕ → ℕ → List ℕ → ℕ → Bool
apart_some k a n b m = some_pair n m (λ i j. apart k (get_or a i 0) (get_or b j 0))

-- the least and the most of n values
unfoldable pub ends_of : ℕ → (ℕ → ℕ) → Ends
ends_of n v = record { least = least_of n v; most = most_of n v }

-- some value between ends x exceeds k times some value between ends y, or the other way round
abbrev pub ends_apart : ℕ → Ends → Ends → Bool
ends_apart k x y = ltb (k * y.least) x.most || ltb (k * x.least) y.most

-- p, or q, of bay k as it is worked out of what is at hand
abbrev pub share_at : List ℕ → List ℕ → ℕ → ℕ
share_at a s k = pair_at a k * (get_or s k 0 * get_or s k 0)

-- p, or q, of bay k across the lines along d
unfoldable pub share_of : List ℕ → Way → ℕ → ℕ
share_of f d k = pair_alpha f d k * (span f (across d) k * span f (across d) k)

-- the list p has that number for every bay across the lines along d
pub record Shares (f : List ℕ) (d : Way) (p : List ℕ) : Type 0 where
  pub is : (k : ℕ) → k < last_line f d → get_or p k 0 ≡ share_of f d k
