-- A span's record in its place: what is read and worked out of a span is its view and its record, and a line's records follow one another.
-- Assumes nothing.
use Prim.Native.Nat.{zero-le, ℕ, ◌+◌, ◌-◌, ◌≤◌, ◌<◌}
use mathlib.Core.List.{List}
use mathlib.Core.Path.{◌≡◌, refl, ap, ◌∙◌}
use native.Mathlib.Omega.{arith}
use lib.ListN.{length, get_or}
use Rattle.numbers.specs.Records.{put, written_from, every}
use Rattle.plan.specs.declared.ways.Way.{Way}
use Rattle.plan.specs.Ways.{across}
use Rattle.plan.specs.Plan.{bays, span}
use Rattle.plan.proofs.Reading.{bays_most}
use Rattle.floor.proofs.Fair.{fair}
use Rattle.floor.specs.Refusal.{refusal}
use Rattle.lines.specs.declared.slab.Slab.{Slab}
use Rattle.lines.specs.Slabs.{slab_of}
use Rattle.spans.specs.declared.view.LineView.{LineView}
use Rattle.spans.specs.declared.view.View.{View}
use Rattle.spans.specs.declared.work.LineWork.{LineWork}
use Rattle.spans.specs.Views.{line_view, low_end, high_end, view_of}
use Rattle.spans.specs.Works.{alpha_of, line_work}
use Rattle.spans.specs.Record.{record_of}
use Rattle.spans.specs.Asked.{Sides, SlabbedSpan, WorkableSpan}
use Rattle.lines.proofs.Slabs.{sized_of}
use Rattle.spans.proofs.AtHand.{alpha_is}
use Rattle.spans.proofs.Clear.{workable}
use Rattle.tables.specs.declared.named.Spans.{Spans}
use Rattle.tables.specs.Width.{record_width}
use Rattle.tables.specs.Places.{Place, Inside, place_of, line_first_in, line_first}
use Rattle.tables.proofs.Numbered.{bayed, line_starts, number_place, number_below, place_inside}
use Rattle.tables.proofs.Runs.{next_one}
use Rattle.tables.specs.Asked.{OnLine}
use Rattle.frames.specs.Asked.{Standing, Stands, AtSpans, AtSpan}
use Rattle.frames.specs.Table.{view_at, record_at}

-- what a view of a span is made of
abbrev pub seen : List ℕ → Slab → LineView → Way → ℕ → View
seen f slab line d s = record { slab = slab; line = line; l1 = span f d s; low = low_end f d s; high = high_end f d s }

module _ (f t : List ℕ) (slab : Slab) (line : LineView) (work : LineWork) (d : Way) (s k : ℕ) (h : AtSpan f t slab line work d s k) where
  inside : Inside f (place_of f k)
  inside = place_inside f h.below

  pub slabbed : SlabbedSpan f slab s
  slabbed =
      let b : s < bays f d = rw (h.way_is, h.span_is) at inside.span in
      record { shared = h.standing.shared; few = omega (arith, bays_most f d) }

  seen_is : seen f slab line d s ≡ view_at f k
  unfolding view_at view_of
  seen_is = rw (h.way_is, h.span_is, h.standing.shared, h.line_is)

  pub record_worked : WorkableSpan (seen f slab line d s) work
  unfolding view_at
  record_worked =
      record {
        view = rw seen_is (workable (record { accepted = h.standing.accepted; clear = h.standing.clear; line = inside.line; span = inside.span }));
        line = h.work_is;
      }

  pub record_is : {v : View} {r : List ℕ} → v ≡ seen f slab line d s → r ≡ record_of v → r ≡ record_at f k
  record_is e q = q ∙ ap record_of (e ∙ seen_is)

-- a table of the same length has the same room
pub standing_in : (f t : List ℕ) (slab : Slab) → Standing f t slab → (u : List ℕ) → length u ≡ length t → Standing f u slab
standing_in f t slab h u e =
    record { accepted = h.accepted; clear = h.clear; shared = h.shared; table = record { room = omega (arith, h.table.room) } }

-- what a floor's type says, with what else is asked
pub standing_of : {f t : List ℕ} {slab : Slab} → refusal f ≡ 0 → slab ≡ slab_of f → Stands f t → Standing f t slab
standing_of accepted shared h = record { accepted = accepted; clear = h.clear; shared = shared; table = h.table }

-- ---- the spans of a line

module _ (f t : List ℕ) (slab : Slab) (a : List ℕ) (d : Way) (l : ℕ) (spans : Spans) (h : AtSpans f t slab a d l spans) where
  abbrev place : ℕ → Place
  place s = record { way = d; line = l; span = s }

  pub line_few : l ≤ 12
  line_few = omega (arith, h.line, bays_most f (across d))

  pub spans_few : spans.to ≤ 12
  spans_few = omega (arith, h.most, bays_most f d)

  in_line : {s : ℕ} → s < bays f d → Inside f (place s)
  in_line q = record { line = h.line; span = q }

  pub on_line : OnLine slab.bays l
  on_line = record { bayed = bayed (sized_of f h.standing.shared); line = line_few }

  pub first_is : {first : ℕ} → first ≡ line_first_in slab.bays d l → first ≡ line_first f d l
  first_is e = line_starts (sized_of f h.standing.shared) d l e

  pub line_worked : {line : LineView} → line ≡ line_view f d l → Sides line
  unfolding view_of
  line_worked e =
      rw e
      (workable (record { accepted = h.standing.accepted; clear = h.standing.clear; line = h.line; span = ((fair f h.standing.accepted).bays_in d).0 })).line.spans

  -- α in the row at hand is that of the line's view
  pub alpha_of_lem : {line : LineView} → line ≡ line_view f d l → get_or a l 0 ≡ alpha_of line slab.t
  alpha_of_lem e = rw (e, h.standing.shared) (h.alphas.is l zero-le h.line ∙ alpha_is f d l)

  module _ {first : ℕ} {line : LineView} {work : LineWork} (at : first ≡ line_first f d l) (line_is : line ≡ line_view f d l)
      (work_is : work ≡ line_work line (get_or a l 0)) {s : ℕ} (q : s < spans.to) where
    here : place_of f (first + s) ≡ place s
    here = rw at (number_place f (in_line (omega (arith, h.most))))

    pub at_span : (u : List ℕ) → length u ≡ length t → AtSpan f u slab line work d s (first + s)
    at_span u e =
        record {
          standing = standing_in f t slab h.standing u e;
          below = rw at (number_below f (in_line (omega (arith, h.most))));
          way_is = rw here;
          span_is = rw here;
          line_is = rw here line_is;
          work_is = work_is ∙ rw (alpha_of_lem line_is);
        }

  -- one record more of a line
  pub next_span : {first low s : ℕ} (u : List ℕ) → first ≡ line_first f d l → low ≤ s → u ≡ written_from record_width every (record_at f) (line_first f d l + low) (s - low) t
      → put record_width (first + s) (record_at f (first + s)) u ≡ written_from record_width every (record_at f) (line_first f d l + low) (s + 1 - low) t
  next_span {low = low} {s = s} u at order e = rw at (next_one record_width (record_at f) (line_first f d l) low s t order e refl)
