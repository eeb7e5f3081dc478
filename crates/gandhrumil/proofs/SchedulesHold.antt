-- What is said of the examples' schedules: that every strip of the garage has its bars, and four of its records, by computing; from them the answer and the bytes.
-- Assumes nothing.
use Prim.Native.Nat.{ℕ, zero, suc, ◌+◌, ◌*◌, ◌≤◌, ◌<◌}
use mathlib.Core.Bool.{true}
use mathlib.Core.List.{List, [], ◌∷◌}
use mathlib.Core.Path.{◌≡◌, refl, sym, ap, subst, ◌∙◌}
use native.Mathlib.Omega.{arith}
use lib.ListN.{length, get_or}
use Rattle.answers.specs.declared.Answer.{Answer}
use Rattle.answers.specs.Answers.{answer}
use Rattle.bars.specs.Choice.{widest, bars_for}
use Rattle.bars.specs.Entries.{entry_numbers, eight_of}
use Rattle.bars.specs.Widths.{beam_off, column_width}
use Rattle.floor.specs.Refusal.{refusal}
use Rattle.frames.specs.Spans.{span_at}
use Rattle.frames.specs.Table.{view_at}
use Rattle.layouts.specs.Layouts.{keeps, kept, kept_along, layout_of}
use Rattle.limits.specs.Limits.{verdict}
use Rattle.lines.specs.Lines.{below, line_alpha}
use Rattle.lines.specs.Slabs.{slab_of}
use Rattle.numbers.specs.Tests.{until}
use Rattle.plan.specs.Fields.{le16, le32}
use Rattle.plan.specs.Plan.{bays, offset, value}
use Rattle.records.specs.Kinds.{count_of, start_of}
use Rattle.records.specs.Ranges.{materials_ok}
use Rattle.spans.specs.Meaning.{Each32}
use Rattle.spans.specs.Record.{between_strips, end_strips, outer_part, percents_of, record_of}
use Rattle.spans.specs.Views.{high_end, line_view, low_end, outer_end, view_of}
use Rattle.spans.specs.Works.{span_work}
use Rattle.steel.specs.Area.{K}
use Rattle.steel.specs.Meaning.{byte_at}
use Rattle.steel.specs.Query.{depth_listed, depth_of, in_range}
use Rattle.steel.specs.Schedule.{schedule_length, entry_in, all_barred, scheduled, Scheduled}
use Rattle.steel.specs.Search.{first, first_within, least_within}
use Rattle.steel.specs.Steel.{limits_of, minimum_area, steel_of, strain_area}
use Rattle.steel.specs.Strips.{strips, entry_of, materials_of, moment_number, reinforcement_of, schedule_depth, strip_moment, strip_query, strip_width}
use Rattle.steel.proofs.Meaning.{reads, written_in}
use Rattle.steel.proofs.Scheduled.{all_good, not_clear, refused_is, scheduled_is, too_short}
use Rattle.stiffness.specs.Lines.{alpha, column_strip_width, frame_width, transverse_span}
use Rattle.stiffness.specs.Sections.{edge_torsion, flange, flanged_inertia, inertia, torsion}
use Rattle.strips.specs.EndTable.{end_percent, end_row}
use Rattle.strips.specs.Moments.{clear_length, static_moment}
use Rattle.strips.specs.Ratios.{span_ratio, stiffness_ratio, torsion_ratio}
use Rattle.strips.specs.Strips.{beam_share, outer_negative, part, split}
use Rattle.tables.specs.Places.{place_of, record_count}
use Rattle.gandhrumil.specs.Examples.{garage, first_strip, second_strip, sixth_strip, across_strip}

-- ---- by computing

barred : (eight_of (entry_in garage 0 0) ≡ first_strip) × (eight_of (entry_in garage 0 1) ≡ second_strip) × (eight_of (entry_in garage 0 5) ≡ sixth_strip) × (eight_of (entry_in garage 25 5) ≡ across_strip) × (all_barred garage ≡ true) × (record_count garage ≡ 49)
unfolding all_barred record_count entry_in entry_of reinforcement_of strip_query materials_of strip_moment moment_number strip_width schedule_depth steel_of limits_of strain_area minimum_area least_within first_within first K in_range depth_listed depth_of bars_for widest column_width beam_off span_at view_at place_of layout_of keeps kept kept_along below line_alpha slab_of until le16 le32 bays offset value count_of start_of materials_ok between_strips end_strips outer_part percents_of record_of high_end line_view low_end outer_end view_of span_work alpha column_strip_width frame_width transverse_span edge_torsion flange flanged_inertia inertia torsion end_percent end_row clear_length static_moment span_ratio stiffness_ratio torsion_ratio beam_share outer_negative part split
barred = (refl, refl, refl, refl, refl, refl)

-- ---- numbers, read back

each_fits : (ns : List ℕ) → Each32 ns → (n : ℕ) → get_or ns n 0 < 4294967296
each_fits [] h n = omega arith
each_fits (m ∷ ns) h zero = h.0
each_fits (m ∷ ns) h (suc n) = each_fits ns h.1 n

first_fit : Each32 first_strip
first_fit = (omega arith, (omega arith, (omega arith, (omega arith, (omega arith, (omega arith, (omega arith, (omega arith, tt))))))))

second_fit : Each32 second_strip
second_fit = (omega arith, (omega arith, (omega arith, (omega arith, (omega arith, (omega arith, (omega arith, (omega arith, tt))))))))

sixth_fit : Each32 sixth_strip
sixth_fit = (omega arith, (omega arith, (omega arith, (omega arith, (omega arith, (omega arith, (omega arith, (omega arith, tt))))))))

across_fit : Each32 across_strip
across_fit = (omega arith, (omega arith, (omega arith, (omega arith, (omega arith, (omega arith, (omega arith, (omega arith, tt))))))))

-- of strip q of record k
reads_as : (f t : List ℕ) (numbers : List ℕ) → schedule_length f ≤ length t → (k : ℕ) → k < record_count f → (q : ℕ) → q < strips → eight_of (entry_in f k q) ≡ numbers → Each32 numbers
    → (n : ℕ) → n < entry_numbers → le32 (scheduled f t) (byte_at k q n 0) ≡ get_or numbers n 0
reads_as f t numbers room k hk q hq j fits n hn =
    reads (scheduled f t) k q (entry_in f k q) (written_in f t room k q hk hq) n hn (subst (λ (x : List ℕ). get_or x n 0 < 4294967296) (sym j) (each_fits numbers fits n)) ∙ ap (λ (x : List ℕ). get_or x n 0) j

-- ---- the garage

module _ {t t' : List ℕ} {a : Answer} (e : refusal garage ≡ 0) (v : verdict garage ≡ 0) (p : Scheduled garage t a t') where
  pub garage_scheduled : 9408 ≤ length t
      → (a ≡ answer 0 294) × ((n : ℕ) → n < entry_numbers → (le32 t' (n * 4) ≡ get_or first_strip n 0) × (le32 t' (32 + n * 4) ≡ get_or second_strip n 0) × (le32 t' (160 + n * 4) ≡ get_or sixth_strip n 0) × (le32 t' (4960 + n * 4) ≡ get_or across_strip n 0))
  garage_scheduled h =
      let count = barred.5 in
      let room : schedule_length garage ≤ length t = rw count h in
      let first : 0 < record_count garage = rw count (omega arith) in
      let across : 25 < record_count garage = rw count (omega arith) in
      let r = scheduled_is garage t (all_good garage (length t) e v room barred.4) in
      let buffer : t' ≡ scheduled garage t = p.schedule ∙ sym r.schedule in (
        p.answer ∙ sym r.answer ∙ rw count,
        λ n hn.
            let e0 : byte_at 0 0 n 0 ≡ n * 4 = omega arith in
            let e1 : byte_at 0 1 n 0 ≡ 32 + n * 4 = omega arith in
            let e5 : byte_at 0 5 n 0 ≡ 160 + n * 4 = omega arith in
            let e155 : byte_at 25 5 n 0 ≡ 4960 + n * 4 = omega arith in
            rw buffer (
              rw e0 at (reads_as garage t first_strip room 0 first 0 (omega arith) barred.0 first_fit n hn),
              rw e1 at (reads_as garage t second_strip room 0 first 1 (omega arith) barred.1 second_fit n hn),
              rw e5 at (reads_as garage t sixth_strip room 0 first 5 (omega arith) barred.2 sixth_fit n hn),
              rw e155 at (reads_as garage t across_strip room 25 across 5 (omega arith) barred.3 across_fit n hn),
            ),
      )

  pub garage_refused : length t < 9408 → (a ≡ answer 15 0) × (t' ≡ t)
  garage_refused h =
      let count = barred.5 in
      let r = refused_is garage t (too_short garage (length t) e v (λ room. omega (arith, h, room, count))) (λ z. omega (arith, z)) in
      (p.answer ∙ sym r.answer, p.schedule ∙ sym r.schedule)

-- ---- a floor that is not clear

pub not_scheduled : {f t t' : List ℕ} {a : Answer} → refusal f ≡ 0 → ¬ (verdict f ≡ 0) → Scheduled f t a t' → (a ≡ answer 16 0) × (t' ≡ t)
not_scheduled {f} {t} e n p =
    let r = refused_is f t (not_clear f (length t) e n) (λ z. omega (arith, z)) in
    (p.answer ∙ sym r.answer, p.schedule ∙ sym r.schedule)
