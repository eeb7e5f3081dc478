-- Things in lines (InLines) written one after another: one more of a line, one line more, and both directions. Each is a run of records
-- after a run, which is one run (numbers: Written).
-- Assumes nothing.
use Prim.Native.Nat.{ℕ, ◌+◌, ◌-◌, ◌*◌, ◌≤◌}
use mathlib.Core.Bool.{Bool}
use mathlib.Core.List.{List}
use mathlib.Core.Path.{◌≡◌, sym, ◌∙◌}
use native.Mathlib.Nat.{suc-mul, zero-add, zero-mul}
use native.Mathlib.Numerals.{add-one}
use native.Mathlib.Omega.{arith}
use Rattle.numbers.specs.Records.{put, written_from, written, every}
use Rattle.numbers.proofs.Written.{from_none, from_more, from_run}
use Rattle.plan.specs.declared.ways.Way.{Way}
use Rattle.plan.specs.declared.ways.Way.TheVariants.{X, Y}
use Rattle.tables.specs.Places.{start_in, count_in}

-- one more of a line that starts with record a, of which those from `low` on are written
pub next_one : (w : ℕ) (g : ℕ → List ℕ) (a low m : ℕ) (t : List ℕ) {u v : List ℕ} → low ≤ m
    → u ≡ written_from w every g (a + low) (m - low) t → v ≡ g (a + m) → put w (a + m) v u ≡ written_from w every g (a + low) (m + 1 - low) t
next_one w g a low m t order e q =
    let c : m + 1 - low ≡ m - low + 1 = omega arith in
    let k : a + low + (m - low) ≡ a + m = omega arith in
    rw (c, from_more w every g (a + low) (m - low) t, k, e, q)

module _ (n last : Way → ℕ) (w : ℕ) (s : ℕ → Bool) (g : ℕ → List ℕ) (t : List ℕ) where
  pub no_line : (d : Way) → t ≡ written_from w s g (start_in n last d) (0 * n d) t
  no_line d = rw (zero-mul (n d)) (sym (from_none w s g (start_in n last d) t))

  pub next_line : (d : Way) (l : ℕ) {u : List ℕ} → u ≡ written_from w s g (start_in n last d) (l * n d) t
      → written_from w s g (start_in n last d + l * n d) (n d) u ≡ written_from w s g (start_in n last d) ((l + 1) * n d) t
  next_line d l e =
      let c : (l + 1) * n d ≡ l * n d + n d = rw add-one (suc-mul l (n d)) in
      rw (e, c) (from_run w s g (start_in n last d) (l * n d) (n d) t)

  -- the lines of x end where those of y start
  pub both_ways : {u v : List ℕ} → u ≡ written_from w s g (start_in n last X) ((last X + 1) * n X) t
      → v ≡ written_from w s g (start_in n last Y) ((last Y + 1) * n Y) u → v ≡ written w s g (count_in n last) t
  both_ways e q = q ∙ rw e (rw (zero-add (start_in n last Y)) at (from_run w s g 0 (start_in n last Y) ((last Y + 1) * n Y) t))
