-- What is said of the examples: refusals, verdicts and the first record by computing, and from them what opening and the change answer.
-- Assumes nothing.
use Prim.Native.Nat.{ℕ, ◌+◌, ◌*◌, ◌≤◌, ◌<◌, zero-le}
use mathlib.Core.Bool.{false}
use mathlib.Core.List.{List, [], ◌∷◌}
use mathlib.Core.Path.{◌≡◌, refl, sym, ap, subst, ◌∙◌}
use native.Mathlib.Omega.{arith}
use lib.Dec.{eqb}
use lib.ListN.{length, get_or}
use borrow.Author.Tests.{lt-leb}
use Rattle.changes.specs.Change.{change_ok, changed}
use Rattle.changes.specs.Refusal.{change_checks, change_refusal}
use Rattle.floor.specs.Refusal.{count_ok, every_record, first_ok, floor_checks, kind_ok, length_ok, record_ok, refusal, value_checks}
use Rattle.frames.specs.Table.{view_in}
use Rattle.layouts.specs.Layouts.{beams_ok, keeps, kept, kept_along, layout_of}
use Rattle.limits.specs.Limits.{adjoining, astray, astray_column, few, heavy, slender_panel, some_pair, sum_of, thin_panel, unbalanced, unequal_panel, uneven, verdict}
use Rattle.lines.specs.Lines.{below, clear_span, line_alpha, outer_panel, pair_alpha, panel_place, panel_thickness, panel_view, weak_edge}
use Rattle.lines.specs.Slabs.{slab_of}
use Rattle.numbers.specs.Chains.{tried}
use Rattle.numbers.specs.Records.{put}
use Rattle.numbers.specs.Tests.{until}
use Rattle.plan.specs.Fields.{le16, le32}
use Rattle.plan.specs.Plan.{bays, offset, value}
use Rattle.records.specs.Kinds.{changeable, count_of, start_of, total, unlisted_zero}
use Rattle.records.specs.Ranges.{beam_ok, column_ok, columns_ok, loads_ok, materials_ok, offset_ok, sides_ok, sizes_ok, span_ok, values_ok}
use Rattle.spans.specs.Record.{between_strips, end_strips, outer_part, percents_of, record_of}
use Rattle.spans.specs.Views.{high_end, line_view, low_end, outer_end, view_of}
use Rattle.spans.specs.Works.{span_work}
use Rattle.stiffness.specs.Lines.{alpha, column_strip_width, frame_width, transverse_span}
use Rattle.stiffness.specs.Sections.{edge_torsion, flange, flanged_inertia, inertia, torsion}
use Rattle.strips.specs.EndTable.{end_percent, end_row}
use Rattle.strips.specs.Moments.{clear_length, static_moment}
use Rattle.strips.specs.Ratios.{span_ratio, stiffness_ratio, torsion_ratio}
use Rattle.strips.specs.Strips.{beam_share, outer_negative, part, split}
use Rattle.thickness.specs.LeastThickness.{answer_of01, divisor, least_thickness, middling, raised, raises, stiff, tabled}
use Rattle.floor.proofs.Meaning.{given}
use Rattle.limits.specs.Meaning.{Broken}
use Rattle.limits.proofs.Meaning.{broken, clear_is}
use Rattle.plan.specs.declared.ways.Way.TheVariants.{X, Y}
use Rattle.tables.specs.Width.{record_width}
use Rattle.tables.specs.Places.{Place, number_of}
use Rattle.answers.specs.declared.Answer.{Answer}
use Rattle.moments.specs.Lent.{Lent}
use Rattle.moments.specs.Tables.{Lodged}
use Rattle.moments.specs.Opening.{Opened}
use Rattle.moments.proofs.Room.{open_whole, change_whole}
use Rattle.answers.specs.Answers.{answer}
use Rattle.clear.specs.Answers.{yes_no, clear_of}
use Rattle.limits.specs.declared.Limit.TheVariants.{Few, Uneven, Thin}
use Rattle.broken.specs.Numbers.{place_width, numbers_of, listed_in}
use Rattle.broken.specs.Listing.{gathered, place, row_places, places_along, limit_places, places_of}
use Rattle.broken.specs.Meaning.{PlaceList}
use Rattle.broken.specs.Answers.{has_room, Placed}
use Rattle.broken.proofs.Answers.{no_room, room_suffices, refused_is, listed_is}
use Rattle.gandhrumil.specs.Examples.{one_bay, garage, moved, lighter, first_span, Example, Examples}
use Rattle.gandhrumil.proofs.Demands.{demand_two}
use Rattle.gandhrumil.proofs.SchedulesHold.{garage_scheduled, garage_refused, not_scheduled}

-- ---- by computing

abbrev first : Place
first = record { way = X; line = 0; span = 0 }

computed : (refusal one_bay ≡ 0) × (verdict one_bay ≡ 1) × (refusal garage ≡ 0) × (verdict garage ≡ 0) × (change_refusal garage lighter ≡ 0)
    × (refusal (changed garage lighter) ≡ 0) × (verdict (changed garage lighter) ≡ 0) × (record_of (view_in garage first) ≡ first_span) × (bays garage X ≡ 5) × (clear_of [] ≡ answer 1 0) × (refusal moved ≡ 0) × (verdict moved ≡ 68)
unfolding clear_of change_ok changed change_checks change_refusal count_ok every_record first_ok floor_checks kind_ok length_ok record_ok refusal value_checks beams_ok keeps kept kept_along layout_of adjoining astray astray_column few heavy slender_panel some_pair sum_of thin_panel unbalanced unequal_panel uneven verdict below clear_span line_alpha outer_panel pair_alpha panel_place panel_thickness panel_view weak_edge slab_of tried put until le16 le32 bays offset value changeable count_of start_of total unlisted_zero beam_ok column_ok columns_ok loads_ok materials_ok offset_ok sides_ok sizes_ok span_ok values_ok between_strips end_strips outer_part percents_of record_of high_end line_view low_end outer_end view_of span_work alpha column_strip_width frame_width transverse_span edge_torsion flange flanged_inertia inertia torsion end_percent end_row clear_length static_moment span_ratio stiffness_ratio torsion_ratio beam_share outer_negative part split answer_of01 divisor least_thickness middling raised raises stiff tabled
computed = (refl, refl, refl, refl, refl, refl, refl, refl, refl, refl, refl, refl)

-- ---- from that

cleared : (f : List ℕ) {v : ℕ} → refusal f ≡ 0 → verdict f ≡ v → clear_of f ≡ answer 0 (yes_no (eqb v 0))
unfolding clear_of
cleared f e j = rw (e, j)

example : {f : List ℕ} {v : ℕ} → refusal f ≡ 0 → verdict f ≡ v → Example f v
example {f} e j =
    record {
      accepted = (given 0 f).0 e;
      judged = subst (Broken f) j (broken f e);
      opens = λ {l = l} o room. o.answer ∙ rw (open_whole f l e room, j);
      clear = cleared f e j;
    }

opened_first : refusal garage ≡ 0 → verdict garage ≡ 0 → record_of (view_in garage first) ≡ first_span → bays garage X ≡ 5 → {l l' : Lent} {a : Answer} → Opened garage l a l' → Lodged garage l
    → (n : ℕ) → n < record_width → get_or l'.table n 0 ≡ get_or first_span n 0
opened_first e j numbers five {l' = l'} o room n h =
    let told = demand_two.opening o (ap (λ (x : Answer). x.refusal) ((example e j).opens o room)) in
    let at : n ≡ number_of garage first * record_width + n = omega arith in
    ap (λ (i : ℕ). get_or l'.table i 0) at
    ∙ (told.moments ((clear_is (broken garage e)).0 j) first (record { line = zero-le; span = omega (arith, five) })).0 n h
    ∙ ap (λ (r : List ℕ). get_or r n 0) numbers

-- ---- their places

located : (f : List ℕ) {ps : PlaceList} → refusal f ≡ 0 → places_of f ≡ ps → {t t' : List ℕ} {a : Answer} → Placed f t a t' → length ps * place_width ≤ length t
    → (a ≡ answer 0 (length ps)) × (t' ≡ listed_in ps t)
located f e j {t} p room =
    let r = listed_is f t (room_suffices f (length t) e (rw j room)) in (p.answer ∙ sym r.answer ∙ rw j, p.slice ∙ sym r.slice ∙ rw j)

refused_25 : (f : List ℕ) {ps : PlaceList} → refusal f ≡ 0 → places_of f ≡ ps → {t t' : List ℕ} {a : Answer} → Placed f t a t' → length t < length ps * place_width
    → (a ≡ answer 25 0) × (t' ≡ t)
unfolding has_room
refused_25 f {ps} e j {t} p short =
    let n : has_room f (length t) ≡ false = rw (j, lt-leb (length ps * place_width) (length t) short) in
    let r = refused_is f t (no_room f (length t) e n) (λ z. omega (arith, z)) in (p.answer ∙ sym r.answer, p.slice ∙ sym r.slice)

abbrev both_few : PlaceList
both_few = place Few X 0 0 ∷ place Few Y 0 0 ∷ []

abbrev moving : PlaceList
moving = place Uneven X 2 0 ∷ place Thin X 2 1 ∷ place Thin X 2 2 ∷ place Thin X 2 3 ∷ []

placed : (places_of one_bay ≡ both_few) × (places_of garage ≡ []) × (places_of moved ≡ moving)
unfolding places_of limit_places places_along row_places gathered layout_of adjoining few heavy slender_panel thin_panel unequal_panel below clear_span line_alpha outer_panel pair_alpha panel_place panel_thickness panel_view weak_edge le16 le32 bays offset value count_of start_of alpha frame_width flanged_inertia inertia flange answer_of01 divisor least_thickness middling raised raises stiff tabled kept kept_along until keeps
placed = (refl, refl, refl)

pub examples_hold : Examples
unfolding numbers_of
examples_hold =
    let (one_accepted, one_verdict, accepted, clear, taken, accepted_after, clear_after, numbers, five, nothing, moved_accepted, moved_verdict) = computed in
    record {
      one_bay_lem = example one_accepted one_verdict;
      five_by_four = example accepted clear;
      first = opened_first accepted clear numbers five;
      taken = λ {l = l} o room. o.answer ∙ rw (change_whole garage l lighter taken room, clear_after);
      after = example accepted_after clear_after;
      one_bay_places = λ p room. located one_bay one_accepted placed.0 p room;
      one_bay_short = λ p short. refused_25 one_bay one_accepted placed.0 p short;
      moved_places = λ p room. located moved moved_accepted placed.2 p room;
      garage_places = λ p. located garage accepted placed.1 p zero-le;
      garage_schedule = λ p room. garage_scheduled accepted clear p room;
      garage_short = λ p short. garage_refused accepted clear p short;
      moved_schedule = λ p. not_scheduled moved_accepted (λ z. omega (arith, z, moved_verdict)) p;
      nothing = nothing;
    }
