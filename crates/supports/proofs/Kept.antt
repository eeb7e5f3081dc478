-- "If the slice agreed with the table before a change, it agrees with it after": a support that is next to no named record has the same
-- numbers by both tables, since the records that it reads are none that the change names; so those next to one, written anew, are all anew.
-- Assumes nothing.
use Prim.Native.Nat.{ℕ, ◌+◌, ◌*◌, ◌≤◌, ◌<◌}
use mathlib.Core.Bool.{Bool, true, false, cond, false≢true}
use mathlib.Core.List.{List}
use mathlib.Core.Path.{◌≡◌, refl, sym, ap, ◌∙◌}
use native.Mathlib.Omega.{arith}
use lib.ListN.{length, get_or}
use Rattle.numbers.proofs.Tests.{fails}
use Rattle.plan.specs.declared.ways.Way.{Way}
use Rattle.plan.specs.declared.read.Bays.{Bays}
use Rattle.plan.specs.Plan.{bays, bays_of, many}
use Rattle.tables.specs.Places.{Place, Inside, record_count, number_of}
use Rattle.tables.specs.Named.{named_at}
use Rattle.tables.proofs.Numbered.{line_first_is, number_place, number_below}
use Rattle.tables.proofs.Meaning.{says_named_at}
use Rattle.supports.specs.Governing.{support_width, support_count, support_place, support_at, governed}
use Rattle.supports.specs.Beside.{beside_at}
use Rattle.supports.specs.Meaning.{Adjoins, span_of, Agrees}
use Rattle.supports.proofs.Supports.{support_inside}
use Rattle.supports.proofs.Governed.{governed_at}
use Rattle.supports.proofs.Besides.{spans_are, last_are, says_beside_at}
use Rattle.supports.proofs.Same.{SameRecord, same_support}

module _ (f : List ℕ) (kind index : ℕ) (listed : index < many f kind) (some : (d : Way) → 1 ≤ bays f d) (t t' : List ℕ)
    (same : (r : ℕ) → r < record_count f → named_at f kind index r ≡ false → SameRecord t t' r) where
  abbrev b : Bays
  b = bays_of f

  module _ (k : ℕ) (h : k < support_count b) where
    abbrev p : Place
    p = support_place b k

    inside : (s : ℕ) → s < bays f p.way → Inside f (span_of p s)
    inside s l = record { line = rw (sym (last_are f p.way)) (support_inside b h).line; span = l }

    -- a span that adjoins a support which is not written is not named
    not_named : beside_at b kind index k ≡ false → (s : ℕ) → s < bays f p.way → Adjoins s p.span
        → named_at f kind index (number_of f (span_of p s)) ≡ false
    not_named left s l a =
        fails (says_named_at f kind index (number_below f (inside s l)))
        (λ names. false≢true (sym left ∙ (says_beside_at f kind index listed some h).passes (s, l, (a, rw (number_place f (inside s l)) at names))))

    pub support_kept : beside_at b kind index k ≡ false → support_at b t k ≡ support_at b t' k
    support_kept left =
        same_support t t' b p (rw (spans_are f p.way) (some p.way)) (omega (arith, (support_inside b h).span))
        (λ s m a.
        let l : s < bays f p.way = rw (spans_are f p.way) at m in
        rw (line_first_is f p.way p.line) (same (number_of f (span_of p s)) (number_below f (inside s l)) (not_named left s l a)))

  -- ---- the slice

  module _ (g : List ℕ) (room : support_count b * support_width ≤ length g) where
    pub agrees_after : Agrees b t g → Agrees b t' (governed b (beside_at b kind index) t' g)
    agrees_after agrees k n hk hn = governed_at b (beside_at b kind index) t' g room k n hk hn ∙ one (beside_at b kind index k) refl
      where
        one : (v : Bool) → beside_at b kind index k ≡ v
            → cond v (get_or (support_at b t' k) n 0) (get_or g (k * support_width + n) 0) ≡ get_or (support_at b t' k) n 0
        one true e = refl
        one false e = agrees k n hk hn ∙ ap (λ (r : List ℕ). get_or r n 0) (support_kept k hk e)
