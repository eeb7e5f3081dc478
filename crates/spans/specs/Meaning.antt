-- What holds of the numbers of a record: at a section "middle", "beam" and "slab" make up its whole total, and the three sections of a span balance.
-- proofs/Whole shows it of every workable span, proofs/Clear shows that every span of a clear floor is workable.
-- Assumes nothing.
use Rattle.std.specs.Prelude.{ℕ, ◌+◌, ◌*◌, ◌≤◌, ◌<◌, Bool, false, cond, ◌&&◌, List, [], ◌∷◌, ◌≡◌, eqb}
use Rattle.layouts.specs.declared.Layout.{Layout}
use Rattle.strips.specs.declared.strip.Strips.{Strips}
use Rattle.spans.specs.declared.view.EndView.{EndView}
use Rattle.spans.specs.declared.work.SpanWork.{SpanWork}
use Rattle.spans.specs.Record.{percents_of, total_at}

-- a section, shared out: nothing is lost, and the largest total is 75 percent of the largest moment
pub record Shared (s : Strips) : Type 0 where
  pub whole : s.middle + s.beam + s.slab ≡ s.total
  pub strip : s.beam + s.slab ≡ s.column
  pub most : s.total ≤ 1879200000

-- "an unrestrained end span"
abbrev pub unrestrained : EndView → Bool
unrestrained e = e.outer && eqb e.code 1

-- a span has at most one outer end: a clear floor has at least three bays each way
abbrev pub OneOuter : EndView → EndView → Type 0
OneOuter low high = (low.outer && high.outer) ≡ false

-- "Negatives plus twice the positive make 200·Mo, but 201·Mo in an unrestrained end span"
abbrev pub Balanced : Layout → SpanWork → EndView → EndView → Type 0
Balanced layout w low high =
    total_at w (percents_of layout low high).low + total_at w (percents_of layout low high).high + 2 * total_at w (percents_of layout low high).between
    ≡ cond (unrestrained low) 201 (cond (unrestrained high) 201 200) * w.moment

-- "sixteen 32-bit numbers"
abbrev pub In32 : ℕ → Type 0
In32 n = n < 4294967296

abbrev pub Each32 : List ℕ → Type 0
Each32 [] = Unit {0}
Each32 (n ∷ ns) = In32 n × Each32 ns
