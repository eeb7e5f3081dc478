-- What the numbers of an accepted floor keep: one law over kind and index, and each name's range from it.
--     ranged      the record of kind k and index i has the ranges of kind k
--     anywhere    so has what is not there, which reads 0, if 0 is in range
-- Assumes nothing.
use Prim.Native.Nat.{ℕ, ◌+◌, ◌*◌, ◌%◌, ◌≤◌, ◌<◌, zero-le}
use mathlib.Core.List.{List}
use mathlib.Core.Logic.{inl, ⊎_elim}
use mathlib.Core.Path.{◌≡◌, refl}
use native.Mathlib.Decide.{dec_lt}
use native.Mathlib.Omega.{arith}
use Rattle.numbers.proofs.Tests.{says_le, says_and, by_test}
use Rattle.records.specs.Kinds.{count_of}
use Rattle.records.specs.Meaning.{In, Column, Columns, Span, Beam, Offset, InRange}
use Rattle.records.proofs.Places.{total_most}
use Rattle.plan.specs.declared.ways.Way.{Way}
use Rattle.plan.specs.declared.ways.Way.TheVariants.{X, Y}
use Rattle.plan.specs.declared.ways.End.{End}
use Rattle.plan.specs.declared.ways.End.TheVariants.{Low, High}
use Rattle.plan.specs.declared.read.Bays.{Bays}
use Rattle.plan.specs.Asked.{Sized}
use Rattle.plan.specs.Fields.{part_at}
use Rattle.plan.specs.Ways.{pick, span_kind, line_kind, part_of}
use Rattle.plan.proofs.Reading.{there, absent}
use Rattle.plan.proofs.Directions.{span_count, line_count}
use Rattle.plan.specs.Plan.{bays, many, value, thickness, column, side, span, last_line, beam_width, beam_depth, offset}
use Rattle.floor.specs.Refusal.{refusal}
use Rattle.floor.specs.Meaning.{First, Counted}
use Rattle.layouts.specs.Asked.{Allowed, Regular}
use Rattle.layouts.specs.Meaning.{Beamed, LayoutAllowed, BeamsDeep}
use Rattle.floor.specs.Fair.{Fair}
use Rattle.floor.proofs.Meaning.{first_bays, passes}
use Rattle.layouts.proofs.Beams.{laid, layout_is}

module _ (a b c : ℕ) where
  span_range : (d : Way) → InRange (span_kind d) a b c → Span a
  unfolding InRange
  span_range X h = h
  span_range Y h = h

  beam_range : (d : Way) → InRange (line_kind d) a b c → Beam a b
  unfolding InRange
  beam_range X h = h
  beam_range Y h = h

beam_most : {width depth : ℕ} → Beam width depth → (width ≤ 1000) × (depth ≤ 1500)
beam_most = ⊎_elim (λ z. (omega arith, omega arith)) (λ h. (h.0.1, h.1.1))

module _ (f : List ℕ) (e : refusal f ≡ 0) where
  first : First f
  first = (passes f e).first

  pub bays_read : (d : Way) → bays f d ≡ pick d (part_at f 0 1) (part_at f 0 2)
  bays_read = first_bays f first

  pub ranged : (k i : ℕ) → i < many f k → InRange k (value f k i 1) (value f k i 2) (value f k i 3)
  ranged k i h = rw (there f k i 1 h, there f k i 2 h, there f k i 3 h) ((passes f e).ranged k i h)

  pub anywhere : (k : ℕ) (P : ℕ → ℕ → Type 0) → P 0 0 → ((a b c : ℕ) → InRange k a b c → P a b) → (i : ℕ) → P (value f k i 1) (value f k i 2)
  anywhere k P none some i =
      elim (dec_lt i (many f k)) [
        | yes h ↦ some _ _ _ (ranged k i h)
        | no h ↦ let n : many f k ≤ i = omega arith in rw (absent f k i 1 n, absent f k i 2 n) none
      ]

  -- ---- each name's range

  bays_range : (d : Way) → In 1 12 (bays f d)
  bays_range X = rw (bays_read X) first.1.0
  bays_range Y = rw (bays_read Y) first.1.1

  columns : Columns (value f 4 0 1) (value f 4 0 2) (value f 4 0 3)
  unfolding InRange count_of
  columns = ranged 4 0 (omega arith)

  column_range : (d : Way) → Column (column f d)
  column_range X = columns.0
  column_range Y = columns.1

  side_range : (d : Way) (end : End) → side f d end ≤ 2
  side_range X Low = omega (arith, columns.2.1)
  side_range X High = columns.2.2
  side_range Y Low = columns.2.3
  side_range Y High = columns.2.4

  spans : (d : Way) (i : ℕ) → (span f d i ≤ 12000) × (span f d i % 20 ≡ 0)
  spans d =
      anywhere (span_kind d) (λ a b. (a ≤ 12000) × (a % 20 ≡ 0)) (omega arith, refl)
      (λ a b c h. ((span_range a b c d h).0.1, (span_range a b c d h).1))

  beam_sizes : (d : Way) (l : ℕ) → Beam (beam_width f d l) (beam_depth f d l)
  beam_sizes d = anywhere (line_kind d) Beam (inl (refl, refl)) (λ a b c. beam_range a b c d)

  offsets : (q : ℕ) → Offset (value f 9 q 1) (value f 9 q 2)
  unfolding InRange
  offsets = anywhere 9 Offset (omega arith, omega arith) (λ a b c h. h)

  offset_part : (d : Way) (q : ℕ) → value f 9 q (part_of d) ≤ 12000
  offset_part X q = (offsets q).0
  offset_part Y q = (offsets q).1

  offset_range : (d : Way) (i j : ℕ) → offset f d i j ≤ 12000
  unfolding offset
  offset_range d i j =
      by_test (λ n. n ≤ 12000) (says_and (says_le i (bays f X)) (says_le j (bays f Y))) (λ h. offset_part d (j * (bays f X + 1) + i)) (λ h. zero-le)

  beams : LayoutAllowed f × BeamsDeep f
  beams = (passes f e).beams

  beam_deep : (d : Way) (l : ℕ) → Beamed f d l → thickness f < beam_depth f d l
  beam_deep d l b =
      elim (dec_lt (last_line f d) l) [
        | yes h ↦ absurd (omega (arith, absent f (line_kind d) l 1 (omega (arith, line_count f d))))
        | no h ↦ beams.1 d l (omega arith) b
      ]

  -- for crates above, which have the bays at hand
  pub laid_out : {b : Bays} → Sized f b → Allowed f b
  laid_out h = record { lined = record { sized = h; bay = λ d. (bays_range d).0 }; allowed = beams.0 }

  -- and for those that have a plan
  pub regular : Regular f
  regular = record { bayed = record { bay = λ d. (bays_range d).0 }; allowed = beams.0 }

  counted : Counted f
  counted = (passes f e).counted

  pub fair : Fair f
  unfolding InRange count_of
  fair =
      record {
        whole = counted;
        short = omega (arith, counted, total_most (bays f X) (bays f Y) (record { x = (bays_range X).1; y = (bays_range Y).1 }));
        bays_in = bays_range;
        thickness_in = (ranged 1 0 (omega arith)).2;
        materials = ranged 2 0 (omega arith);
        loads = ranged 3 0 (omega arith);
        column_in = column_range;
        side_most = side_range;
        span_least = λ d i h. (span_range _ _ _ d (ranged (span_kind d) i (omega (arith, span_count f d)))).0.0;
        span_most = λ d i. (spans d i).0;
        span_twenties = λ d i. (spans d i).1;
        beam = beam_sizes;
        width_most = λ d l. (beam_most (beam_sizes d l)).0;
        depth_most = λ d l. (beam_most (beam_sizes d l)).1;
        offset_most = offset_range;
        clear = (passes f e).columns;
        layout = laid f beams.0;
        layout_is = layout_is f beams.0;
        deep = beam_deep;
      }
