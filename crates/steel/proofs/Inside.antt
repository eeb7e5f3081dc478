-- What the schedule asks.
--     in_range    on a clear floor the query of every strip that has a width is in range, so 11 cannot arise (never_11): no part of a section exceeds 75 percent of the
--                 largest static moment, and no strip is wider than its frame
--     layers      x frames are reckoned at t − 26, y frames at t − 38 (02, Six)
-- Assumes nothing.
use Prim.Native.Nat.{ℕ, ◌+◌, ◌-◌, ◌*◌, ◌/◌, ◌≤◌, ◌<◌}
use mathlib.Core.List.{List}
use mathlib.Core.Logic.{◌⊎◌, inl, inr}
use mathlib.Core.Path.{◌≡◌, refl}
use native.Mathlib.Nat.{le_trans}
use native.Mathlib.Omega.{arith}
use lib.Dec.{lit≤}
use borrow.Author.Tests.{eq-eqb, ne_eqb}
use Rattle.plan.specs.declared.ways.Way.{Way}
use Rattle.plan.specs.declared.ways.Way.TheVariants.{X, Y}
use Rattle.plan.specs.Ways.{pick}
use Rattle.plan.specs.Plan.{thickness}
use Rattle.records.specs.Meaning.{In}
use Rattle.floor.specs.Refusal.{refusal}
use Rattle.floor.proofs.Fair.{fair}
use Rattle.limits.specs.Limits.{verdict}
use Rattle.tables.specs.Places.{record_count, place_of}
use Rattle.frames.specs.Spans.{span_at}
use Rattle.frames.proofs.Records.{strips_in, parts_most}
use Rattle.steel.specs.declared.query.Query.{Query}
use Rattle.steel.specs.Query.{InRange, depth_of}
use Rattle.steel.specs.Steel.{steel_of}
use Rattle.steel.specs.Strips.{by_strip, materials_of, moment_number, strip_width, strip_moment, schedule_depth, strip_query}
use Rattle.steel.specs.Barred.{query_in}
use Rattle.steel.proofs.Answers.{steel_answer}
use Rattle.steel.proofs.Reinforced.{width_most}

-- what is asked for may be asked: t − 26 lies in 50..t − 25, and 0 is listed
pub asked_in : (d : Way) {t : ℕ} → In 90 500 t → In 50 (t - 25) (schedule_depth d t) ⊎ (schedule_depth d t ≡ 0)
unfolding schedule_depth
asked_in X h = inl (omega arith, omega arith)
asked_in Y h = inr refl

-- the depth that is asked for or, where that is 0, what it stands for
pub depth_is : (query : Query) (d : Way) → query.d ≡ schedule_depth d query.t → In 90 500 query.t → depth_of query ≡ pick d (query.t - 26) (query.t - 38)
unfolding depth_of schedule_depth
depth_is query X e h = rw (ne_eqb query.d 0 (λ z. omega (arith, e, z, h))) e
depth_is query Y e h = rw (eq-eqb query.d 0 e)

pub layers : (f : List ℕ) → refusal f ≡ 0 → (k q : ℕ) → depth_of (query_in f k q) ≡ pick (place_of f k).way (thickness f - 26) (thickness f - 38)
unfolding strip_query materials_of span_at
layers f accepted k q = depth_is (query_in f k q) (place_of f k).way refl (fair f accepted).thickness_in

module _ (f : List ℕ) (accepted : refusal f ≡ 0) (clear : verdict f ≡ 0) {k : ℕ} (below : k < record_count f) where
  moment_most : (q : ℕ) → strip_moment (span_at f k) q ≤ 1879200000
  unfolding strip_moment moment_number
  moment_most q =
      let n = 5 * (q / 2) + by_strip q 4 2 in
      let e : 1 + n ≡ 1 + 5 * (q / 2) + by_strip q 4 2 = omega arith in
      rw e at (parts_most f k accepted clear below n)

  pub in_range : (q : ℕ) → 0 < strip_width (span_at f k) q → InRange (query_in f k q)
  unfolding strip_query materials_of
  in_range q wide =
      let numbers = fair f accepted in
      let r = strips_in f k accepted clear below in
      record {
        moment = le_trans (moment_most q) (lit≤ tt);
        width = (wide, width_most (span_at f k) q (le_trans r.0 r.1) r.1);
        thickness = numbers.thickness_in;
        depth = asked_in (span_at f k).way numbers.thickness_in;
        materials = numbers.materials;
      }

  pub never_11 : (q : ℕ) → 0 < strip_width (span_at f k) q → ¬ ((steel_of (query_in f k q)).refusal ≡ 11)
  never_11 q wide e = (steel_answer (query_in f k q)).outside.0 e (in_range q wide)
