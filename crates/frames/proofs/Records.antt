-- A span by its record's number: what is read of a table that has it and of the floor is the span, and its numbers keep these ranges.
-- Assumes nothing.
use Prim.Native.Nat.{zero-le, ℕ, zero, suc, ◌+◌, ◌-◌, ◌*◌, ◌≤◌, ◌<◌}
use mathlib.Core.List.{List, [], ◌∷◌}
use mathlib.Core.Path.{◌≡◌, refl, sym, ap, ◌∙◌}
use native.Mathlib.Omega.{arith}
use lib.ListN.{length, get_or, take, drop, length-drop}
use lib.Seq.{paste, ext_get_or, length-paste, length-take-le, get_or-take, get_or-drop}
use Rattle.numbers.proofs.Records.{pasted_in}
use Rattle.plan.specs.Plan.{span}
use Rattle.floor.specs.Refusal.{refusal}
use Rattle.limits.specs.Limits.{verdict}
use Rattle.lines.specs.declared.slab.Slab.{Slab}
use Rattle.lines.specs.Slabs.{slab_of}
use Rattle.lines.proofs.Slabs.{sized_of}
use Rattle.strips.specs.declared.strip.Strips.{Strips}
use Rattle.stiffness.specs.Lines.{column_strip_width}
use Rattle.stiffness.proofs.Widths.{frame_in, strip_most}
use Rattle.spans.specs.declared.view.LineView.{LineView}
use Rattle.spans.specs.Views.{line_view, view_of}
use Rattle.spans.specs.Works.{width_of}
use Rattle.spans.specs.Record.{record_of}
use Rattle.spans.specs.Asked.{Sides, Workable}
use Rattle.spans.specs.Meaning.{Shared}
use Rattle.spans.proofs.Clear.{workable}
use Rattle.spans.proofs.Fits.{width_is}
use Rattle.spans.proofs.Whole.{sections}
use Rattle.tables.specs.declared.places.Found.{Found}
use Rattle.tables.specs.Width.{record_width}
use Rattle.tables.specs.Places.{Inside, record_count, place_of, found, place_among}
use Rattle.tables.specs.Asked.{Room, Numbered}
use Rattle.tables.proofs.Numbered.{bayed, counted, found_at, place_inside}
use Rattle.frames.specs.Asked.{AtRecord, Held}
use Rattle.frames.proofs.Spans.{standing_of}
use Rattle.frames.specs.Table.{view_at, record_at}
use Rattle.frames.specs.Spans.{span_at}

-- ---- the numbers of a list that have a bound

abbrev Each : List ℕ → Type 0
Each [] = Unit {0}
Each (n ∷ ns) = (n ≤ 1879200000) × Each ns

each_most : (ns : List ℕ) → Each ns → (m : ℕ) → get_or ns m 0 ≤ 1879200000
each_most [] h m = zero-le
each_most (n ∷ ns) h zero = h.0
each_most (n ∷ ns) h (suc m) = each_most ns h.1 m

-- a section's five, and what follows them
five : {s : Strips} {Rest : Type 0} → Shared s → Rest
    → (s.total ≤ 1879200000) × ((s.column ≤ 1879200000) × ((s.middle ≤ 1879200000) × ((s.beam ≤ 1879200000) × ((s.slab ≤ 1879200000) × Rest))))
five h rest =
    (h.most, (omega (arith, h.whole, h.strip, h.most), (omega (arith, h.whole, h.most), (omega (arith, h.whole, h.most), (omega (arith, h.whole, h.most), rest)))))

-- ---- of a floor whose moments stand

module _ (f : List ℕ) (k : ℕ) (accepted : refusal f ≡ 0) (clear : verdict f ≡ 0) (below : k < record_count f) where
  inside : Inside f (place_of f k)
  inside = place_inside f below

  pub view_worked : Workable (view_at f k)
  unfolding view_at
  view_worked = workable (record { accepted = accepted; clear = clear; line = inside.line; span = inside.span })

  -- wc is no more than W, and W no more than the longest span
  pub strips_in : ((span_at f k).strip ≤ (span_at f k).width) × ((span_at f k).width ≤ 12000)
  unfolding span_at
  strips_in = (strip_most _ _ _ _ _, (frame_in _ view_worked.line.spans).most)

  -- of its record no number after Mo exceeds 75 percent of the largest static moment
  pub parts_most : (n : ℕ) → get_or (span_at f k).numbers (1 + n) 0 ≤ 1879200000
  unfolding span_at record_of
  parts_most n =
      let s = sections view_worked in
      rw (one_more n) (each_most (drop 1 (span_at f k).numbers) (five s.0 (five s.1 (five s.2 tt))) n)
    where
      one_more : (n : ℕ) → 1 + n ≡ suc n
      one_more n = omega arith

-- ---- where a table has its record

pub at_record : {f : List ℕ} {slab : Slab} {t : List ℕ} {k : ℕ} → refusal f ≡ 0 → slab ≡ slab_of f → Held f t k → AtRecord f slab t k
at_record accepted shared h = record { standing = standing_of accepted shared h.stands; below = h.below; holds = h.holds }

module _ (f : List ℕ) (slab : Slab) (t : List ℕ) (k : ℕ) (h : AtRecord f slab t k) where
  shared : slab ≡ slab_of f
  shared = h.standing.shared

  view : Workable (view_at f k)
  view = view_worked f k h.standing.accepted h.standing.clear h.below

  pub numbered : Numbered slab.bays k
  numbered = let s = sized_of f shared in record { bayed = bayed s; below = rw (counted s refl) h.below }

  pub roomy : Room (k + 1) t
  roomy = record { room = omega (arith, h.below, h.standing.table.room) }

  -- its numbers are the record's
  pub numbers_are : take record_width (drop (k * record_width) t) ≡ record_at f k
  numbers_are =
      ext_get_or 0 _ _ (length_part ∙ sym (width_is (view_at f k)))
      (λ n hn. let below : n < record_width = omega (arith, hn, length_part) in
      get_or-take record_width (drop (k * record_width) t) n 0 below ∙ get_or-drop (k * record_width) t n 0 ∙ h.holds n below)
    where
      length_part : length (take record_width (drop (k * record_width) t)) ≡ record_width
      length_part = length-take-le record_width (drop (k * record_width) t) (omega (arith, roomy.room, length-drop (k * record_width) t))

  module _ {p : Found} (e : p ≡ found (place_among slab.bays k)) where
    at_place : p ≡ found (place_of f k)
    at_place = e ∙ ap found (found_at (sized_of f shared) k)

    line_at : {line : LineView} → line ≡ line_view f p.way p.line → line ≡ (view_at f k).line
    unfolding view_at view_of
    line_at q = q ∙ rw at_place

    pub sides : {line : LineView} → line ≡ line_view f p.way p.line → Sides line
    sides q = rw (line_at q) view.line.spans

    length_at : {l1 : ℕ} → l1 ≡ span f p.way p.span → l1 ≡ (view_at f k).l1
    unfolding view_at view_of
    length_at q = q ∙ rw at_place

    pub span_is : {line : LineView} {l1 strip width : ℕ} {numbers : List ℕ} → line ≡ line_view f p.way p.line → l1 ≡ span f p.way p.span
        → numbers ≡ take record_width (drop (k * record_width) t) → strip ≡ column_strip_width line.outer l1 line.below line.above line.across → width ≡ width_of line
        → record { numbers = numbers; way = p.way; outer = line.outer; beam = line.width; strip = strip; width = width } ≡ span_at f k
    unfolding span_at
    span_is q el en es ew = rw (en ∙ numbers_are, es, ew, line_at q, length_at el, ap (λ (x : Found). x.way) at_place)

-- numbers in the place of as many others
pub filled : (z x : List ℕ) → length z ≡ length x → paste z 0 x (length x) ≡ x
filled z x e =
    let fits : 0 + length x ≤ length z = omega (arith, e) in
    let same = length-paste z 0 x (length x) fits (omega arith) in
    ext_get_or 0 _ _ (same ∙ e)
    (λ i h. let at : 0 + i ≡ i = omega arith in
    rw at at (pasted_in z 0 x (length x) fits (omega arith) i (omega (arith, h, same, e))))

-- of a table, the record that starts at `at`
pub part_of : (z t : List ℕ) (at : ℕ) → length z ≡ record_width → at + record_width ≤ length t
    → paste z 0 (take (at + record_width - at) (drop at t)) (length (take (at + record_width - at) (drop at t))) ≡ take record_width (drop at t)
part_of z t at e room =
    let w : at + record_width - at ≡ record_width = omega arith in
    rw w (filled z (take record_width (drop at t)) (e ∙ sym (length-take-le record_width (drop at t) (omega (arith, room, length-drop at t)))))
