-- What the writers of a line's supports ask of each other, and what they have written: the supports next to the named spans of a line follow
-- one another, from the start of the first of these spans to the end of the last.
-- Assumes nothing.
use Prim.Native.Nat.{ℕ, ◌+◌, ◌-◌, ◌≤◌, ◌<◌}
use mathlib.Core.Bool.{◌&&◌}
use mathlib.Core.List.{List}
use mathlib.Core.Path.{◌≡◌, refl, sym, ap, ◌∙◌}
use native.Mathlib.Nat.{mul-le-mul_right}
use native.Mathlib.Omega.{arith}
use lib.Dec.{leb}
use lib.ListN.{length}
use borrow.Author.Tests.{lt-ltb, le-ltb}
use Rattle.numbers.specs.Records.{put, written_from, every}
use Rattle.numbers.proofs.Tests.{says_le, says_lt, says_as, says_one}
use Rattle.numbers.proofs.Written.{from_left, same_written, in_range}
use Rattle.plan.specs.declared.ways.Way.{Way}
use Rattle.plan.specs.declared.ways.Way.TheVariants.{X, Y}
use Rattle.plan.specs.declared.read.Bays.{Bays}
use Rattle.plan.specs.Ways.{pick, across}
use Rattle.tables.specs.Places.{Place, line_first_in}
use Rattle.tables.specs.declared.named.Spans.{Spans}
use Rattle.tables.specs.Named.{named_spans}
use Rattle.tables.specs.Asked.{Naming}
use Rattle.tables.proofs.Meaning.{named_most}
use Rattle.tables.proofs.Runs.{next_one}
use Rattle.supports.specs.Governing.{support_width, support_on, spans_of, last_of, supports_of, support_count, support_first, support_place, support_in, support_at}
use Rattle.supports.specs.Beside.{beside_some, beside_named, beside_at}
use Rattle.supports.specs.Asked.{SupportRoom, Supporting, AtFrame, AtSupports}
use Rattle.supports.proofs.Supports.{line_below, number_support}

-- the supports of a line, by their numbers
abbrev pub line_support : List ℕ → ℕ → ℕ → ℕ → ℕ → List ℕ
line_support t first n start k = support_on t first n (k - start)

-- one support more of a line
pub next_support : (t : List ℕ) (first n start low s : ℕ) (g : List ℕ) {u v : List ℕ} → low ≤ s
    → u ≡ written_from support_width every (line_support t first n start) (start + low) (s - low) g → v ≡ support_on t first n s
    → put support_width (start + s) v u ≡ written_from support_width every (line_support t first n start) (start + low) (s + 1 - low) g
next_support t first n start low s g order e q =
    let z : start + s - start ≡ s = omega arith in
    next_one support_width (line_support t first n start) start low s g order e (rw z q)

-- ---- supports of a line

module _ (b : Bays) (d : Way) (l : ℕ) (hl : l ≤ last_of b d) where
  place_is : (s : ℕ) → s ≤ spans_of b d → support_place b (support_first b d l + s) ≡ record { way = d; line = l; span = s }
  place_is s h = number_support b {p = record { way = d; line = l; span = s }} (record { line = hl; span = omega arith })

  pub support_on_lem : (t : List ℕ) (s : ℕ) → s ≤ spans_of b d → support_at b t (support_first b d l + s) ≡ support_on t (line_first_in b d l) (spans_of b d) s
  support_on_lem t s h = ap (λ (p : Place). support_in b t p) (place_is s h)

  pub beside_on : (kind index s : ℕ) → s ≤ spans_of b d
      → beside_at b kind index (support_first b d l + s) ≡ beside_some (named_spans kind index d l (spans_of b d)) s
  unfolding beside_at
  beside_on kind index s h = ap (λ (p : Place). beside_named b kind index p) (place_is s h)

module _ {b : Bays} {t g : List ℕ} {d : Way} {l from to : ℕ} (h : AtSupports b t g d l from to) where
  pub support_room : {start s : ℕ} (u : List ℕ) → start ≡ support_first b d l → s ≤ to → length u ≡ length g → SupportRoom (start + s + 1) u
  support_room {start} {s} u e hs q =
      let end : start + s + 1 ≤ support_count b = rw e (omega (arith, line_below b d l h.line, h.last)) in
      record { room = omega (arith, mul-le-mul_right support_width end, h.slice.room, q) }

  -- those written are the supports of the floor
  pub line_supports : {first n start : ℕ} → first ≡ line_first_in b d l → n ≡ spans_of b d → start ≡ support_first b d l
      → written_from support_width every (line_support t first n start) (start + from) (to + 1 - from) g
      ≡ written_from support_width every (support_at b t) (support_first b d l + from) (to + 1 - from) g
  line_supports ef en es =
      rw (ef, en, es)
      (same_written support_width every every (line_support t (line_first_in b d l) (spans_of b d) (support_first b d l)) (support_at b t)
      (support_first b d l + from) (to + 1 - from) g
      (λ k p q. refl)
      (λ k p q.
      let e : support_first b d l + (k - support_first b d l) ≡ k = omega arith in
      sym (support_on_lem b d l h.line t (k - support_first b d l) (omega (arith, h.order, h.last))) ∙ ap (support_at b t) e))

-- ---- one line

module _ {b : Bays} {t g : List ℕ} {kind index : ℕ} {d : Way} {l : ℕ} (h : AtFrame b t g kind index d l) where
  pub naming : {n : ℕ} → n ≡ spans_of b d → Naming n index
  naming e = record { least = rw e (h.all.some d); index_most = h.all.index_most }

  module _ {n : ℕ} {spans : Spans} (e : n ≡ spans_of b d) (q : spans ≡ named_spans kind index d l n) where
    to_most : spans.to ≤ spans_of b d
    to_most = rw (q, e) (named_most kind index d l (spans_of b d) (h.all.there d) (h.all.some d))

    pub at_supports : spans.from < spans.to → AtSupports b t g d l spans.from spans.to
    at_supports o =
        record {
          bayed = h.all.bayed;
          some = h.all.some d;
          table = h.all.table;
          slice = h.all.slice;
          line = h.line;
          order = omega arith;
          last = to_most;
        }

    beside : (s : ℕ) → s < supports_of b d → beside_at b kind index (support_first b d l + s) ≡ beside_some spans s
    beside s hs = rw (q, e) (beside_on b d l h.line kind index s (omega arith))

    -- those next to some of the spans
    pub line_is : spans.from < spans.to
        → written_from support_width every (support_at b t) (support_first b d l + spans.from) (spans.to + 1 - spans.from) g
        ≡ written_from support_width (beside_at b kind index) (support_at b t) (support_first b d l) (supports_of b d) g
    line_is o =
        sym (in_range support_width (beside_at b kind index) (support_at b t) (support_first b d l) (supports_of b d) spans.from (spans.to + 1) g
        (omega (arith, to_most))
        (λ s hs.
        beside s hs
        ∙ rw (lt-ltb spans.from spans.to o)
        (ap (λ v. leb spans.from s && v) (says_one (says_le s spans.to) (says_as (λ p. omega arith) (λ p. omega arith) (says_lt s (spans.to + 1)))))))

    -- a line of which no span is named
    pub line_left : spans.to ≤ spans.from → g ≡ written_from support_width (beside_at b kind index) (support_at b t) (support_first b d l) (supports_of b d) g
    line_left o =
        sym (from_left support_width (beside_at b kind index) (support_at b t) (support_first b d l) (supports_of b d) g
        (λ s hs. beside s hs ∙ rw (le-ltb spans.from spans.to o)))

-- ---- the lines of a direction

module _ {b : Bays} {t g : List ℕ} {kind index : ℕ} (h : Supporting b t g kind index) where
  -- a slice of the same length has the same room
  pub supporting_in : (u : List ℕ) → length u ≡ length g → Supporting b t u kind index
  supporting_in u e =
      record {
        bayed = h.bayed;
        some = h.some;
        table = h.table;
        slice = record { room = omega (arith, h.slice.room) };
        index_most = h.index_most;
        there = h.there;
      }

pub last_is : (b : Bays) {n : ℕ} {over : Way} (d : Way) → over ≡ across d → n ≡ pick over b.x b.y → n ≡ last_of b d
last_is b X q e = e ∙ rw q
last_is b Y q e = e ∙ rw q
