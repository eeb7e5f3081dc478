-- The lines of a frame and the frames of both directions: each line's named records are a stretch of it (crate tables), and stretches that
-- follow one another are one.
-- Assumes nothing.
use Prim.Native.Nat.{ℕ, ◌+◌, ◌-◌, ◌≤◌}
use mathlib.Core.List.{List}
use mathlib.Core.Path.{◌≡◌, sym, ap, ◌∙◌}
use native.Mathlib.Omega.{arith}
use lib.ListN.{length}
use Rattle.numbers.specs.Records.{written_from, every}
use Rattle.numbers.proofs.Written.{from_none}
use Rattle.records.proofs.Places.{count_most}
use Rattle.plan.specs.declared.ways.Way.{Way}
use Rattle.plan.specs.declared.ways.Way.TheVariants.{X, Y}
use Rattle.plan.specs.Ways.{pick, across}
use Rattle.plan.specs.Plan.{bays, last_line}
use Rattle.plan.proofs.Reading.{bays_most}
use Rattle.floor.proofs.Fair.{fair}
use Rattle.floor.specs.Refusal.{refusal}
use Rattle.lines.specs.declared.slab.Slab.{Slab}
use Rattle.lines.specs.Slabs.{slab_of}
use Rattle.lines.specs.Rows.{row_of}
use Rattle.spans.proofs.AtHand.{along_of}
use Rattle.tables.specs.Width.{record_width}
use Rattle.tables.specs.Places.{line_first}
use Rattle.tables.specs.declared.named.Spans.{Spans}
use Rattle.tables.specs.Named.{named_spans, named_at}
use Rattle.tables.specs.Asked.{Naming}
use Rattle.tables.proofs.Meaning.{to_most, from_most, line_written}
use Rattle.frames.specs.Asked.{Writable, InTable, InFrames, AtLine, AtSpans}
use Rattle.frames.specs.Table.{record_at}
use Rattle.frames.proofs.Spans.{standing_in, standing_of}

-- ---- one line

module _ (f t : List ℕ) (slab : Slab) (a : List ℕ) (kind index : ℕ) (d : Way) (l : ℕ) (h : AtLine f t slab a kind index d l) where
  some_span : 1 ≤ bays f d
  some_span = ((fair f h.frames.standing.accepted).bays_in d).0

  count_is : {n : ℕ} → n ≡ pick d slab.bays.x slab.bays.y → n ≡ bays f d
  count_is e = e ∙ along_of f h.frames.standing.shared d

  pub naming : {n : ℕ} → n ≡ pick d slab.bays.x slab.bays.y → Naming n index
  naming e =
      record {
        least = rw (count_is e) some_span;
        index_most = omega (arith, h.frames.listed.there, count_most (bays f X) (bays f Y) (record { x = bays_most f X; y = bays_most f Y }) kind);
      }

  module _ {n : ℕ} {spans : Spans} (e : n ≡ pick d slab.bays.x slab.bays.y) (q : spans ≡ named_spans kind index d l n) where
    pub at_spans : AtSpans f t slab a d l spans
    at_spans =
        record {
          standing = h.frames.standing;
          alphas = h.frames.alphas;
          line = h.line;
          order = rw q (from_most kind index d l n);
          most = rw (q, count_is e) (to_most f kind index d l h.frames.listed.there some_span);
        }

    pub line_is : written_from record_width every (record_at f) (line_first f d l + spans.from) (spans.to - spans.from) t
        ≡ written_from record_width (named_at f kind index) (record_at f) (line_first f d l) (bays f d) t
    line_is = rw (q, count_is e) (sym (line_written f kind index record_width (record_at f) d l t h.line h.frames.listed.there some_span))

    -- a line with no span named
    pub line_left : spans.to ≤ spans.from → t ≡ written_from record_width (named_at f kind index) (record_at f) (line_first f d l) (bays f d) t
    line_left o =
        let z : spans.to - spans.from ≡ 0 = omega arith in
        sym (ap (λ (n : ℕ). written_from record_width every (record_at f) (line_first f d l + spans.from) n t) z
        ∙ from_none record_width every (record_at f) (line_first f d l + spans.from) t)
        ∙ line_is

-- ---- the lines of a direction

module _ (f t : List ℕ) (slab : Slab) (a : List ℕ) (kind index : ℕ) (d : Way) (h : InFrames f t slab a kind index d) where
  pub at_line : (u : List ℕ) {l : ℕ} → length u ≡ length t → l ≤ last_line f d → AtLine f u slab a kind index d l
  at_line u e q =
      record {
        frames = record { standing = standing_in f t slab h.standing u e; alphas = h.alphas; listed = h.listed };
        line = q;
      }

  pub last_is : {n : ℕ} {over : Way} → over ≡ across d → n ≡ pick over slab.bays.x slab.bays.y → n ≡ last_line f d
  last_is q e = e ∙ rw q (along_of f h.standing.shared (across d))

-- ---- both directions

pub in_table : {f t : List ℕ} {slab : Slab} {a : List (List ℕ)} {kind index : ℕ} → refusal f ≡ 0 → slab ≡ slab_of f → Writable f t a kind index
    → InTable f t slab a kind index
in_table accepted shared h = record { standing = standing_of accepted shared h.stands; alphas = h.alphas; listed = h.listed }

pub in_frames : (f t : List ℕ) (slab : Slab) (a : List (List ℕ)) {kind index : ℕ} → InTable f t slab a kind index
    → (d : Way) (u : List ℕ) → length u ≡ length t → InFrames f u slab (row_of a d) kind index d
in_frames f t slab a h d u e = record { standing = standing_in f t slab h.standing u e; alphas = h.alphas d; listed = h.listed }
