-- 02, Six: "In the schedule these are the x frames, and it is shown that their records read as before". What Five wrote is kept here to compare with, and used
-- nowhere else. It is today's definitions with two things left open: the depth that a query stands for, and the depth that the schedule asks for. With today's two
-- they are today's (`today`); with Five's two, 0 asked for in every frame and standing for t − 26, they are Five's.
--     stated            a query with a depth of its own is answered as it was: "The figures of 01 with a stated d don't move"
--     first_layer       0 as Five read it is answered as t − 26 is now, refusals too
--     never_less        and where 0 is answered now, Five answered it too, with no more steel
--     as_before         so a record of an x frame is Five's, on every floor
--     bytes_as_before   and so are its bytes in every schedule that is written
-- Assumes nothing.
use Prim.Native.Nat.{ℕ, ◌-◌, ◌*◌, ◌/◌, ◌≤◌, ◌<◌}
use mathlib.Core.Bool.{Bool, true, false, cond}
use mathlib.Core.List.{List}
use mathlib.Core.Logic.{inr}
use mathlib.Core.Path.{◌≡◌, refl, sym, ap, subst, ◌∙◌}
use native.Mathlib.Nat.{le_trans, mul-le-mul_left}
use native.Mathlib.Omega.{arith}
use lib.Dec.{eqb}
use borrow.Author.Tests.{ne_eqb}
use Rattle.numbers.specs.Tests.{Says}
use Rattle.numbers.proofs.Tests.{says_lt, says_le, says_as, says_one}
use Rattle.answers.specs.declared.Answer.{Answer}
use Rattle.answers.specs.Answers.{answer}
use Rattle.plan.specs.declared.ways.Way.{Way}
use Rattle.plan.specs.declared.ways.Way.TheVariants.{X, Y}
use Rattle.tables.specs.Places.{record_count, first_of, place_of}
use Rattle.bars.specs.Choice.{bars_for}
use Rattle.bars.specs.declared.entry.Entry.{Entry}
use Rattle.frames.specs.declared.span.Span.{Span}
use Rattle.frames.specs.Spans.{span_at}
use Rattle.steel.specs.declared.query.Query.{Query}
use Rattle.steel.specs.declared.search.Limits.{Limits}
use Rattle.steel.specs.declared.strip.Materials.{Materials}
use Rattle.steel.specs.declared.strip.Reinforcement.{Reinforcement}
use Rattle.steel.specs.Query.{query_of, InRange, depth_of, in_range}
use Rattle.steel.specs.Area.{K, Fits}
use Rattle.steel.specs.Search.{least_within}
use Rattle.steel.specs.Steel.{minimum_area, strain_area, limits_of, steel_of}
use Rattle.steel.specs.Strips.{strips, section_of, strip_of, strip_width, strip_moment, materials_of, schedule_depth, strip_query, nothing, laid, reinforcement_of, entry_of}
use Rattle.steel.specs.Schedule.{entry_in, Scheduled}
use Rattle.steel.specs.Meaning.{WrittenAt}
use Rattle.steel.proofs.Answers.{steel_answer}
use Rattle.steel.proofs.Bounds.{left_of_top}
use Rattle.steel.proofs.Carrying.{says_carries}
use Rattle.steel.proofs.Ranges.{says_in_range}
use Rattle.steel.proofs.Inside.{asked_in, depth_is}
use Rattle.steel.proofs.Meaning.{entry_is, entry_one, schedule_answer_lem}

-- ---- the definitions, over the depth

module _ (depth : Query → ℕ) where
  unfoldable pub limits_by : Query → Limits
  limits_by q = record {
    fy = q.fy;
    block = 17 * q.fc * q.b * depth q;
    load = 1700 * q.fc * q.b * q.m;
    least = minimum_area q;
    most = 51 * K q.fc * q.fc * q.b * depth q / (224000 * q.fy);
  }

  unfoldable pub steel_by : Query → Answer
  steel_by q = cond (in_range q) (least_within (limits_by q)) (answer 11 0)

  unfoldable pub reinforcement_by : Query → Reinforcement
  reinforcement_by q =
      cond (eqb q.b 0) nothing
      (cond (eqb (steel_by q).refusal 0) (laid (steel_by q).value (bars_for q.b (steel_by q).value q.t)) nothing)

  module _ (asked : Way → ℕ → ℕ) (s : Span) (m : Materials) where
    abbrev pub query_by : ℕ → Query
    query_by q = query_of (strip_moment s q) (strip_width s q) m.t (asked s.way m.t) m.fc m.fy

    unfoldable pub entry_by : ℕ → ℕ → Entry
    entry_by k q =
        record {
          «record» = k;
          section = section_of q;
          strip = strip_of q;
          width = strip_width s q;
          moment = strip_moment s q;
          area = (reinforcement_by (query_by q)).area;
          diameter = (reinforcement_by (query_by q)).diameter;
          spacing = (reinforcement_by (query_by q)).spacing;
        }

pub today : (s : Span) (m : Materials) (k q : ℕ) → entry_by depth_of schedule_depth s m k q ≡ entry_of s m k q
unfolding entry_by reinforcement_by steel_by limits_by entry_of strip_query reinforcement_of steel_of limits_of strain_area
today s m k q = refl

-- ---- Five's: "at d = 0", and in 01 "d = 0 stands for t − 26"

unfoldable pub five_depth : Query → ℕ
five_depth q = cond (eqb q.d 0) (q.t - 26) q.d

unfoldable pub five_steel : Query → Answer
five_steel = steel_by five_depth

unfoldable pub five_entry : Span → Materials → ℕ → ℕ → Entry
five_entry = entry_by five_depth (λ d t. 0)

unfoldable pub five_in : List ℕ → ℕ → ℕ → Entry
five_in f k q = five_entry (span_at f k) (materials_of f) k q

-- ---- a query

-- two answers of one test that are the same where it passes
where_passed : {A : Type 0} {b : Bool} {P : Type 0} {x y : A} (z : A) → Says b P → (P → x ≡ y) → cond b x z ≡ cond b y z
where_passed {b = true} z s h = h (s.holds refl)
where_passed {b = false} z s h = refl

pub stated : (q : Query) → ¬ (q.d ≡ 0) → five_steel q ≡ steel_of q
unfolding five_steel steel_by limits_by five_depth steel_of limits_of strain_area depth_of
stated q n = rw (ne_eqb q.d 0 n)

module _ (M b t fc fy : ℕ) where
  abbrev default : Query
  default = query_of M b t 0 fc fy

  abbrev first : Query
  first = query_of M b t (t - 26) fc fy

  in_first : InRange default → InRange first
  unfolding schedule_depth
  in_first r = record { moment = r.moment; width = r.width; thickness = r.thickness; depth = asked_in X r.thickness; materials = r.materials }

  same_range : in_range default ≡ in_range first
  same_range =
      says_one
      (says_as in_first
      (λ r. record { moment = r.moment; width = r.width; thickness = r.thickness; depth = inr refl; materials = r.materials })
      (says_in_range default))
      (says_in_range first)

  depth_first : InRange first → depth_of first ≡ t - 26
  unfolding schedule_depth
  depth_first r = depth_is first X refl r.thickness

  pub first_layer : five_steel default ≡ steel_of first
  unfolding five_steel steel_by limits_by five_depth steel_of limits_of strain_area minimum_area depth_of
  first_layer = rw same_range (where_passed (answer 11 0) (says_in_range first) (λ r. rw (depth_first r)))

  -- an area that fits in the second layer fits in the first, which is deeper
  fits_first : InRange default → (As : ℕ) → Fits default As → Fits first As
  unfolding depth_of
  fits_first r As h =
      let deep = depth_first (in_first r) in
      let block = 17 * fc * b in
      let load = 1700 * fc * b * M in
      let left : 10 * As * fy ≤ block * (t - 38) = omega (arith, left_of_top r As h.strain) in
      let more : block * (t - 38) ≤ block * (t - 26) = mul-le-mul_left block (omega arith) in
      let carried = (says_le load _).holds ((says_carries fy (block * (t - 38)) load As left).passes h.moment) in
      let longer : block * (t - 38) - 10 * As * fy ≤ block * (t - 26) - 10 * As * fy = omega (arith, more) in
      let carries_more = le_trans carried (mul-le-mul_left (9 * As * fy) longer) in
      record {
        moment = rw deep ((says_carries fy (block * (t - 26)) load As (le_trans left more)).holds ((says_le load _).passes carries_more));
        minimum = h.minimum;
        strain = rw deep (le_trans h.strain (mul-le-mul_left (51 * K fc * fc * b) (omega arith)));
      }

  pub never_less : (steel_of default).refusal ≡ 0 → ((five_steel default).refusal ≡ 0) × ((five_steel default).value ≤ (steel_of default).value)
  never_less z =
      let now = steel_answer default in
      let was = steel_answer first in
      let r = (now.found.0 z).0 in
      let fits = fits_first r _ (now.least z).holds in
      let y = was.found.1 (in_first r, (_, fits)) in
      rw first_layer (y, (was.least y).first _ fits)

  pub bars_as_before : reinforcement_by five_depth default ≡ reinforcement_of first
  unfolding reinforcement_by reinforcement_of five_steel
  bars_as_before = rw first_layer

-- ---- a record

module _ (s : Span) (m : Materials) (along : s.way ≡ X) where
  strip_as_before : (q : ℕ) → reinforcement_by five_depth (query_by five_depth (λ d t. 0) s m q) ≡ reinforcement_of (strip_query s m q)
  unfolding strip_query schedule_depth
  strip_as_before q =
      let M = strip_moment s q in
      let b = strip_width s q in
      bars_as_before M b m.t m.fc m.fy
      ∙ ap (λ (d : Way). reinforcement_of (query_of M b m.t (schedule_depth d m.t) m.fc m.fy)) (sym along)

  pub span_as_before : (k q : ℕ) → entry_of s m k q ≡ five_entry s m k q
  unfolding entry_of five_entry entry_by
  span_as_before k q = rw (strip_as_before q)

-- "x frames come first"
module _ (f : List ℕ) (k : ℕ) (first : k < first_of f Y) (q : ℕ) where
  along : (place_of f k).way ≡ X
  unfolding place_of
  along = rw ((says_lt k (first_of f Y)).passes first)

  pub as_before : entry_in f k q ≡ five_in f k q
  unfolding entry_in five_in span_at
  as_before = span_as_before (span_at f k) (materials_of f) along k q

  pub bytes_as_before : {t t' : List ℕ} {a : Answer} → Scheduled f t a t' → a.refusal ≡ 0 → q < strips → WrittenAt t' k q (five_in f k q)
  unfolding record_count
  bytes_as_before {t} {t'} p z hq =
      let hk : k < record_count f = omega (arith, first) in
      let (e, says, written) = ((schedule_answer_lem f t p).written z).1.entries k q hk hq in
      subst (WrittenAt t' k q) (entry_one f says (entry_is f says.steel) ∙ as_before) written
