-- On a clear floor the table's numbers add up at every span, because those of its record do (crate spans, Whole).
-- Assumes nothing.
use Prim.Native.Nat.{ℕ, zero, suc, ◌+◌, ◌<◌}
use mathlib.Core.List.{List}
use mathlib.Core.Path.{◌≡◌}
use native.Mathlib.Omega.{arith}
use Rattle.floor.specs.Refusal.{refusal}
use Rattle.limits.specs.Meaning.{Clear}
use Rattle.limits.proofs.Meaning.{broken, clear_is}
use Rattle.spans.specs.Works.{span_work}
use Rattle.spans.specs.Record.{record_of, end_strips, between_strips}
use Rattle.spans.specs.Asked.{ClearSpan}
use Rattle.spans.proofs.Clear.{workable, one_outer}
use Rattle.spans.proofs.Whole.{sections, balanced}
use Rattle.strips.specs.Strips.{split}
use Rattle.tables.specs.Width.{record_width}
use Rattle.tables.specs.Places.{Place, Inside}
use Rattle.frames.specs.Table.{view_in}
use Rattle.moments.specs.Meaning.{number_in, right_number, section_at, TableOf, AddsUp}

by_section : (P : ℕ → Type 0) → P 0 → P 1 → P 2 → (j : ℕ) → j < 3 → P j
by_section P a b c zero h = a
by_section P a b c (suc zero) h = b
by_section P a b c (suc (suc zero)) h = c
by_section P a b c (suc (suc (suc j))) h = absurd (omega arith)

pub adds_up : {f t after : List ℕ} → refusal f ≡ 0 → Clear f → TableOf f t after → (p : Place) → Inside f p → AddsUp f after p
unfolding record_of end_strips between_strips split
adds_up {f} {t} {after} accepted clear table p h =
    let here : ClearSpan f p.way p.line p.span = record { accepted = accepted; clear = (clear_is (broken f accepted)).1 clear; line = h.line; span = h.span } in
    let s = sections (workable here) in
    record {
      whole =
          by_section
          (λ j. number_in f after p (section_at j + 2) + number_in f after p (section_at j + 3) + number_in f after p (section_at j + 4) ≡ number_in f after p (section_at j))
          (rw (at 3 (omega arith), at 4 (omega arith), at 5 (omega arith), at 1 (omega arith)) s.0.whole)
          (rw (at 8 (omega arith), at 9 (omega arith), at 10 (omega arith), at 6 (omega arith)) s.1.whole)
          (rw (at 13 (omega arith), at 14 (omega arith), at 15 (omega arith), at 11 (omega arith)) s.2.whole);
      balance = rw (at 1 (omega arith), at 11 (omega arith), at 6 (omega arith), at 0 (omega arith)) (balanced (view_in f p).slab.layout (span_work (view_in f p)) _ _ (one_outer here));
    }
  where
    at : (n : ℕ) → n < record_width → number_in f after p n ≡ right_number f p n
    at n hn = table.stands clear p h n hn
