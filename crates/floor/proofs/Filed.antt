-- What checks 1 to 3 leave, as the later ones ask for it: record 0 lies in the file, then so does every record that nx and ny ask.
-- A kind's records end where the next kind starts, and the last kind's at the record count (Places.start_past).
-- Assumes nothing.
use Prim.Native.Nat.{ℕ, ◌*◌, ◌≤◌}
use mathlib.Core.Bool.{Bool, false, not}
use mathlib.Core.List.{List}
use mathlib.Core.Path.{◌≡◌, sym, ◌∙◌}
use native.Mathlib.Omega.{arith}
use lib.ListN.{length}
use borrow.Author.Tests.{not-false}
use Rattle.records.specs.Kinds.{count_of, start_of, total}
use Rattle.records.proofs.Places.{start_past}
use Rattle.plan.specs.declared.ways.Way.{Way}
use Rattle.plan.specs.declared.ways.Way.TheVariants.{X, Y}
use Rattle.plan.specs.declared.read.Bays.{Bays}
use Rattle.plan.specs.Asked.{InFile, Sized}
use Rattle.plan.specs.Plan.{bays, many, start}
use Rattle.layouts.specs.Asked.{Bayed}
use Rattle.floor.specs.declared.refusal.Check.{Check}
use Rattle.floor.specs.Asked.{Run, Filed}
use Rattle.floor.specs.Refusal.{length_ok, first_ok, count_ok, kind_ok}
use Rattle.floor.proofs.Meaning.{says_whole, says_first, says_counted, first_bays}

module _ (f : List ℕ) where
  pub first_in : {r : Bool} → r ≡ length_ok f → not r ≡ false → InFile f 0
  first_in e t = record { inside = omega (arith, ((says_whole f).holds (sym e ∙ not-false _ t)).1) }

  pub filed : {r s : Bool} → r ≡ first_ok f → not r ≡ false → s ≡ count_ok f → not s ≡ false → Filed f
  filed er tr es ts = record { first = (says_first f).holds (sym er ∙ not-false _ tr); counted = (says_counted f).holds (sym es ∙ not-false _ ts) }

module _ {f : List ℕ} (h : Filed f) where
  pub bayed : Bayed f
  bayed = record { bay = bay }
    where
      bay : (d : Way) → 1 ≤ bays f d
      bay X = rw (first_bays f h.first X) h.first.1.0.0
      bay Y = rw (first_bays f h.first Y) h.first.1.1.0

  module _ {b : Bays} (sized : Sized f b) where
    -- the file's length, by the bays at hand
    file_length : length f ≡ total b.x b.y * 16
    file_length = rw (sized.x, sized.y) h.counted

    pub run : (k : ℕ) {s n : ℕ} → k ≤ 9 → (s ≡ start_of b.x b.y k) × (s ≤ 54) → (n ≡ count_of b.x b.y k) × (n ≤ 169) → Run f s n
    unfolding total
    run k l es en =
        record { first = es.1; number = en.1; inside = omega (arith, es.0, en.0, file_length, start_past b.x b.y k 10 (omega arith)) }

    pub kind_read : (check : Check) (k : ℕ) {s n : ℕ} {r : Bool} → s ≡ start_of b.x b.y k → n ≡ count_of b.x b.y k → r ≡ kind_ok f check k s n
        → r ≡ kind_ok f check k (start f k) (many f k)
    kind_read check k es en er = er ∙ rw (es, en, sized.x, sized.y)
