-- The schedule's loops: one strip more, one span more.
--     told, there              whether a strip has its record
--     strip_written, span_written        the records of one strip, of one span, written after the others
--     holds_all                the table at hand has the floor's moments, by what the moments promise
--     at_record, framed, in_frame        what the calls ask, of a floor whose moments stand
--     own_writable, own_table, own_moments       and of a table of its own
-- Assumes nothing.
use Prim.Native.Nat.{ℕ, ◌+◌, ◌*◌, ◌-◌, ◌/◌, ◌%◌, ◌≤◌, ◌<◌}
use mathlib.Core.Bool.{Bool, true, false, cond, not}
use mathlib.Core.List.{List}
use mathlib.Core.Path.{◌≡◌, refl, sym, ap, ◌∙◌}
use native.Mathlib.Nat.{le_trans, zero-add}
use native.Mathlib.Omega.{arith}
use lib.Dec.{eqb}
use lib.ListN.{length, get_or}
use borrow.Author.Rules.{rules}
use Rattle.std.specs.Prelude.{Option, Some, None}
use Rattle.std.specs.Option.{is_some}
use borrow.Author.Tests.{eq-eqb}
use Rattle.numbers.specs.Records.{written, written_from, every}
use Rattle.numbers.proofs.Bounded.{◌⊗◌, #}
use Rattle.numbers.proofs.Tests.{at}
use Rattle.numbers.proofs.Written.{from_run, same_written}
use Rattle.floor.specs.Refusal.{refusal}
use Rattle.limits.specs.Limits.{verdict}
use Rattle.limits.proofs.Meaning.{broken, clear_is}
use Rattle.lines.specs.declared.slab.Slab.{Slab}
use Rattle.lines.specs.Rows.{AllAlphas}
use Rattle.lines.specs.Slabs.{slab_of}
use Rattle.tables.specs.Width.{record_width}
use Rattle.tables.specs.Places.{record_count, place_of}
use Rattle.tables.proofs.Numbered.{count_most, place_inside, place_number}
use Rattle.bars.specs.declared.entry.Entry.{Entry}
use Rattle.bars.specs.Entries.{number_bytes, entry_numbers, entry_at}
use Rattle.frames.specs.declared.span.Span.{Span}
use Rattle.frames.specs.Asked.{Standing, InTable, Writable, AtRecord}
use Rattle.tables.specs.Asked.{Room}
use Rattle.frames.specs.Table.{view_at, named_written}
use Rattle.frames.specs.Spans.{span_at}
use Rattle.frames.proofs.Records.{strips_in}
use Rattle.moments.specs.Tables.{fresh}
use Rattle.moments.specs.Asked.{Judging}
use Rattle.moments.proofs.Numbers.{table_of}
use Rattle.moments.proofs.Ways.{writable, in_table, filled_all, loads_there}
use Rattle.steel.specs.declared.strip.Materials.{Materials}
use Rattle.steel.specs.Asked.{Framed, Laying, LayingAll, HasMoments}
use Rattle.steel.specs.Strips.{strips, span_numbers, materials_of, entry_of, has_bars, if_barred, span_barred, strip_bytes}
use Rattle.steel.specs.Schedule.{all_barred, schedule_bytes}

-- ---- bars, or none

module _ (x : Entry) {o : Option Entry} (is : o ≡ if_barred x) where
  pub told : is_some o ≡ has_bars x
  told = rw is (by (eqb x.diameter 0))
    where
      by : (b : Bool) → is_some (cond b None (Some x)) ≡ not b
      by true = refl
      by false = refl

  -- of a strip that is known to have bars
  pub there : has_bars x ≡ true → o ≡ Some x
  there h = rw is (by (eqb x.diameter 0) h)
    where
      by : (b : Bool) → not b ≡ true → cond b None (Some x) ≡ Some x
      by true e = absurd (search rules)
      by false e = refl

-- ---- the numbers of a schedule

module _ (s : Span) (m : Materials) (k : ℕ) where
  -- those of record 6k + q
  of_strip : (q : ℕ) → q < 6 → (i : ℕ) → k * span_numbers + q * entry_numbers ≤ i → i < k * span_numbers + q * entry_numbers + entry_numbers
      → entry_at (k * strips + q) (entry_of s m k q) i ≡ strip_bytes s m k i
  unfolding strip_bytes
  of_strip q h i low high =
      let e : i % 48 / 8 ≡ q = omega arith in
      let n : i - (k * strips + q) * entry_numbers ≡ i % 8 = omega arith in
      rw (e, n)

  pub strip_next : (q : ℕ) → q < 6 → (t : List ℕ)
      → written_from number_bytes every (entry_at (k * strips + q) (entry_of s m k q)) ((k * strips + q) * entry_numbers) entry_numbers
      (written_from number_bytes every (strip_bytes s m k) (k * span_numbers) (q * entry_numbers) t)
      ≡ written_from number_bytes every (strip_bytes s m k) (k * span_numbers) ((q + 1) * entry_numbers) t
  strip_next q h t =
      let at : (k * strips + q) * entry_numbers ≡ k * span_numbers + q * entry_numbers = omega arith in
      let more : q * entry_numbers + entry_numbers ≡ (q + 1) * entry_numbers = omega arith in
      let u = written_from number_bytes every (strip_bytes s m k) (k * span_numbers) (q * entry_numbers) t in
      ap (λ (n : ℕ). written_from number_bytes every (entry_at (k * strips + q) (entry_of s m k q)) n entry_numbers u) at
      ∙ same_written number_bytes every every (entry_at (k * strips + q) (entry_of s m k q)) (strip_bytes s m k) (k * span_numbers + q * entry_numbers) entry_numbers u
      (λ i low high. refl) (λ i low high. of_strip q h i low high)
      ∙ from_run number_bytes every (strip_bytes s m k) (k * span_numbers) (q * entry_numbers) entry_numbers t
      ∙ ap (λ (n : ℕ). written_from number_bytes every (strip_bytes s m k) (k * span_numbers) n t) more

  -- after the strips before it
  pub strip_written : (q : ℕ) → q < 6 → (t : List ℕ) {u v : List ℕ} {e : Entry} → e ≡ entry_of s m k q → u ≡ written_from number_bytes every (strip_bytes s m k) (k * span_numbers) (q * entry_numbers) t
      → v ≡ written_from number_bytes every (entry_at (k * strips + q) e) ((k * strips + q) * entry_numbers) entry_numbers u
      → v ≡ written_from number_bytes every (strip_bytes s m k) (k * span_numbers) ((q + 1) * entry_numbers) t
  strip_written q h t ee eu ev = let r = rw (ee, eu) at ev in r ∙ strip_next q h t

-- of span k, whose records follow those of the spans before it
pub span_next : (f t : List ℕ) (k : ℕ) {s : Span} {m : Materials} → s ≡ span_at f k → m ≡ materials_of f
    → written_from number_bytes every (strip_bytes s m k) (k * span_numbers) span_numbers (written number_bytes every (schedule_bytes f) (k * span_numbers) t)
    ≡ written number_bytes every (schedule_bytes f) ((k + 1) * span_numbers) t
unfolding schedule_bytes
span_next f t k {s} {m} es em =
    let more : k * span_numbers + span_numbers ≡ (k + 1) * span_numbers = omega arith in
    let u = written number_bytes every (schedule_bytes f) (k * span_numbers) t in
    same_written number_bytes every every (strip_bytes s m k) (schedule_bytes f) (k * span_numbers) span_numbers u (λ i low high. refl)
    (λ i low high. let e : i / 48 ≡ k = omega arith in rw (e, es, em))
    ∙ ap (λ (n : ℕ). written_from number_bytes every (schedule_bytes f) n span_numbers u) (sym (zero-add (k * span_numbers)))
    ∙ from_run number_bytes every (schedule_bytes f) 0 (k * span_numbers) span_numbers t
    ∙ ap (λ (n : ℕ). written number_bytes every (schedule_bytes f) n t) more

-- after the spans before it
pub span_written : (f t : List ℕ) (k : ℕ) {s : Span} {m : Materials} {u v : List ℕ} → s ≡ span_at f k → m ≡ materials_of f
    → u ≡ written number_bytes every (schedule_bytes f) (k * span_numbers) t → v ≡ written_from number_bytes every (strip_bytes s m k) (k * span_numbers) span_numbers u
    → v ≡ written number_bytes every (schedule_bytes f) ((k + 1) * span_numbers) t
span_written f t k es em eu ev = let r = rw eu at ev in r ∙ span_next f t k es em

-- the span and the materials at hand are the floor's
pub barred_span : (f : List ℕ) (k : ℕ) {s : Span} {m : Materials} {r : Bool} → s ≡ span_at f k → m ≡ materials_of f
    → r ≡ span_barred s m k → r ≡ span_barred (span_at f k) (materials_of f) k
barred_span f k es em e = rw (es, em) at e

-- ---- what is asked of a span

-- a table that was worked out afresh has every record of a clear floor
pub holds_all : (f t : List ℕ) {u : List ℕ} → refusal f ≡ 0 → verdict f ≡ 0 → record_count f * record_width ≤ length t → u ≡ fresh f t
    → HasMoments f u
unfolding view_at
holds_all f t {u} accepted clear room e k n hk hn =
    ap (λ (x : List ℕ). get_or x (k * record_width + n) 0) e
    ∙ ap (λ (j : ℕ). get_or (fresh f t) (j * record_width + n) 0) (sym (place_number f hk))
    ∙ (table_of f t room accepted).stands ((clear_is (broken f accepted)).0 clear) (place_of f k) (place_inside f hk) n hn

pub at_record : {f t : List ℕ} {slab : Slab} {k : ℕ} → Standing f t slab → HasMoments f t → k < record_count f → AtRecord f slab t k
at_record {k = k} standing holds below = record { standing = standing; below = below; holds = λ n hn. holds k n below hn }

module _ (f : List ℕ) {k : ℕ} {s : Span} (accepted : refusal f ≡ 0) (clear : verdict f ≡ 0) (below : k < record_count f) (e : s ≡ span_at f k) where
  pub framed : Framed s
  framed = let r = strips_in f k accepted clear below in record { strip = rw e (le_trans r.0 r.1); width = rw e r.1 }

  pub in_frame : (out u : List ℕ) {m : Materials} → LayingAll f out → m ≡ materials_of f → length u ≡ length out → Laying u s m k
  unfolding all_barred
  in_frame out u h em same =
      record {
        framed = framed;
        few = omega (arith, below, count_most f);
        room = omega (arith, below, h.room, same);
        known = rw (e, em) (at (record_count f) k (λ j. span_barred (span_at f j) (materials_of f) j) h.known below);
      }

-- ---- a table of its own

module _ {f : List ℕ} (a : List (List ℕ)) (accepted : refusal f ≡ 0) (clear : verdict f ≡ 0) (alphas : AllAlphas f a)
    (t : List ℕ) (long : 4992 ≤ length t) where
  own_room : record_count f * record_width ≤ length t
  own_room = le_trans (count_most f ⊗ # record_width) long

  judging : Judging f t true
  judging = record { table = record { room = own_room }; verdict = sym (eq-eqb (verdict f) 0 clear) }

  pub own_writable : Writable f t a 3 0
  own_writable = writable f t judging refl alphas (loads_there f)

  pub own_table : {slab : Slab} → slab ≡ slab_of f → InTable f t slab a 3 0
  own_table shared = in_table f t judging accepted shared alphas refl (loads_there f)

  pub own_moments : {u : List ℕ} → u ≡ named_written f 3 0 t → length u ≡ length t → Room (record_count f) u × HasMoments f u
  own_moments e same = (record { room = rw same own_room }, holds_all f t accepted clear own_room (filled_all f t judging refl e))
