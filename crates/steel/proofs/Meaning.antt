-- What the call answers and leaves is what 02 asks, and nothing else is.
--     says_barred            17: the test of all strips says that each has its steel
--     entry_is, entry_one    a record, and no second one
--     reads                  its numbers, read back from its bytes
--     schedule_of, -one      every byte of the schedule, and no second buffer
--     schedule_answer_lem, -one  the answer with it, and no second answer
--     never_short            so many bytes always suffice
-- Assumes nothing.
use Prim.Native.Nat.{ℕ, ◌+◌, ◌*◌, ◌/◌, ◌%◌, ◌≤◌, ◌<◌}
use mathlib.Core.Bool.{cond}
use mathlib.Core.List.{List, [], ◌∷◌}
use mathlib.Core.Path.{◌≡◌, refl, sym, ap, ◌∙◌}
use native.Mathlib.Omega.{arith}
use native.Mathlib.Nat.{le_trans}
use lib.Dec.{leb, eqb}
use lib.ListN.{length, get_or}
use borrow.Author.Tests.{le-leb}
use Rattle.numbers.specs.Records.{every}
use Rattle.numbers.specs.Tests.{Says}
use Rattle.numbers.specs.Chains.{Chain, tried, GivenBy, Holds, Sound}
use Rattle.numbers.specs.Chains.Check.{◌unless◌says◌}
use Rattle.numbers.specs.Chains.Sound.{done, ◌then◌}
use Rattle.numbers.proofs.Bounded.{◌⊗◌, #}
use Rattle.numbers.proofs.Tests.{says_le, says_eq, says_all, by_test, by_says}
use Rattle.numbers.proofs.Chains.{answers, given_one, success, both_zero, earlier, later, ◌before◌}
use Rattle.numbers.proofs.Written.{length_written, written_past, written_at, same_records}
use Rattle.floor.specs.Refusal.{floor_checks}
use Rattle.floor.proofs.Meaning.{sound_floor}
use Rattle.answers.specs.declared.Answer.{Answer}
use Rattle.answers.specs.Answers.{answer}
use Rattle.answers.proofs.Answers.{same_answer}
use Rattle.limits.specs.Limits.{verdict, is_clear}
use Rattle.plan.specs.Fields.{le32}
use Rattle.tables.specs.Places.{record_count}
use Rattle.tables.proofs.Numbered.{count_most}
use Rattle.bars.specs.declared.entry.Entry.{Entry}
use Rattle.bars.specs.Entries.{number_bytes, entry_numbers, four_bytes, eight_of}
use Rattle.bars.proofs.Bytes.{reads_back}
use Rattle.steel.specs.declared.strip.Reinforcement.{Reinforcement}
use Rattle.steel.specs.Strips.{strips, span_numbers, span_bytes, entry_of, strip_bytes}
use Rattle.steel.specs.Barred.{StripSteel, AllBarred, query_in}
use Rattle.steel.specs.Schedule.{schedule_count, schedule_length, entry_in, all_barred, schedule_bytes, scheduled, schedule_checks, schedule_number, schedule_answer, Scheduled}
use Rattle.steel.specs.Meaning.{steel_in, EntrySays, byte_at, WrittenAt, ScheduleOf, ScheduleAnswer, schedule_most, roomy_checks}
use Rattle.steel.proofs.Strips.{steel_some, steel_one, says_steel}
use Rattle.steel.proofs.Scheduled.{refused_is, scheduled_is}

-- ---- 17

pub says_barred : (f : List ℕ) → Says (all_barred f) (AllBarred f)
unfolding all_barred entry_in entry_of
says_barred f = says_all (record_count f) (λ k. says_all strips (λ q. says_steel (query_in f k q)))

-- ---- one record

pub entry_is : (f : List ℕ) {k q : ℕ} {r : Reinforcement} → StripSteel (query_in f k q) r → EntrySays f k q (entry_in f k q)
unfolding entry_in entry_of
entry_is f {k} {q} s =
    record { number = refl; section = refl; strip = refl; width = refl; moment = refl; steel = rw (steel_some (query_in f k q) s) at s }

pub entry_one : (f : List ℕ) {k q : ℕ} {e x : Entry} → EntrySays f k q e → EntrySays f k q x → e ≡ x
entry_one f {k} {q} {e} {x} p r =
    let s : steel_in e ≡ steel_in x = steel_one (query_in f k q) p.steel r.steel in
    λ i. record {
      «record» = (p.number ∙ sym r.number) i;
      section = (p.section ∙ sym r.section) i;
      strip = (p.strip ∙ sym r.strip) i;
      width = (p.width ∙ sym r.width) i;
      moment = (p.moment ∙ sym r.moment) i;
      area = (s i).area;
      diameter = (s i).diameter;
      spacing = (s i).spacing;
    }

-- its numbers read back, those that fit their four bytes
pub reads : (t : List ℕ) (k q : ℕ) (e : Entry) → WrittenAt t k q e → (n : ℕ) → n < entry_numbers → get_or (eight_of e) n 0 < 4294967296
    → le32 t (byte_at k q n 0) ≡ get_or (eight_of e) n 0
unfolding le32
reads t k q e w n hn fits =
    let at = byte_at k q n 0 in
    let i : (j : ℕ) → byte_at k q n j ≡ at + j = λ j. omega arith in
    rw (w n 0 hn (omega arith), rw (i 1) at (w n 1 hn (omega arith)), rw (i 2) at (w n 2 hn (omega arith)), rw (i 3) at (w n 3 hn (omega arith)))
    (reads_back (get_or (eight_of e) n 0) fits)

-- ---- the whole schedule

module _ (f : List ℕ) where
  full : (i : ℕ) → number_bytes ≤ length (schedule_bytes f i)
  unfolding schedule_bytes strip_bytes
  full i = omega arith

  -- number n of the record for strip q of record k, among all numbers
  bytes_are : (k q n : ℕ) → q < strips → n < entry_numbers → schedule_bytes f ((k * strips + q) * entry_numbers + n) ≡ four_bytes (get_or (eight_of (entry_in f k q)) n 0)
  unfolding schedule_bytes strip_bytes entry_in
  bytes_are k q n hq hn =
      let i = (k * strips + q) * entry_numbers + n in
      let ek : i / 48 ≡ k = omega arith in
      let eq : i % 48 / 8 ≡ q = omega arith in
      let en : i % 8 ≡ n = omega arith in
      rw (ek, eq, en)

  module _ (t : List ℕ) (room : schedule_length f ≤ length t) where
    whole : record_count f * span_numbers * number_bytes ≤ length t
    whole = omega (arith, room)

    pub written_in : (k q : ℕ) → k < record_count f → q < strips → WrittenAt (scheduled f t) k q (entry_in f k q)
    unfolding scheduled
    written_in k q hk hq n j hn hj =
        written_at number_bytes every (schedule_bytes f) full (record_count f * span_numbers) t whole ((k * strips + q) * entry_numbers + n) j (omega (arith, hk)) hj
        ∙ ap (λ (b : List ℕ). get_or b j 0) (bytes_are k q n hq hn)

    pub schedule_of : AllBarred f → ScheduleOf f t (scheduled f t)
    unfolding scheduled
    schedule_of h =
        record {
          same_length = length_written number_bytes every (schedule_bytes f) full (record_count f * span_numbers) t whole;
          past = λ i h. written_past number_bytes every (schedule_bytes f) full (record_count f * span_numbers) t whole i (omega (arith, h));
          entries = λ k q hk hq. (entry_in f k q, entry_is f (h k hk q hq).1, written_in k q hk hq);
        }

  pub schedule_of_one : {t u v : List ℕ} → ScheduleOf f t u → ScheduleOf f t v → u ≡ v
  schedule_of_one {t} {u} {v} p r =
      same_records number_bytes (record_count f * span_numbers) u v (omega arith) (p.same_length ∙ sym r.same_length)
      (λ i j hi hj. same i j hi hj) (λ i h. let g : schedule_length f ≤ i = omega (arith, h) in p.past i g ∙ sym (r.past i g))
    where
      same : (i j : ℕ) → i < record_count f * span_numbers → j < number_bytes → get_or u (i * number_bytes + j) 0 ≡ get_or v (i * number_bytes + j) 0
      same i j hi hj =
          let k = i / 48 in
          let q = i % 48 / 8 in
          let n = i % 8 in
          let hk : k < record_count f = omega (arith, hi) in
          let hq : q < strips = omega arith in
          let at : (k * strips + q) * entry_numbers + n ≡ i = omega arith in
          let (e, pe, pw) = p.entries k q hk hq in
          let (x, re, rw') = r.entries k q hk hq in
          let w : get_or u (byte_at k q n j) 0 ≡ get_or v (byte_at k q n j) 0 =
          pw n j (omega arith) hj ∙ ap (λ (y : Entry). get_or (four_bytes (get_or (eight_of y) n 0)) j 0) (entry_one f pe re) ∙ sym (rw' n j (omega arith) hj) in
          rw at at w

-- ---- the answer

module _ (f : List ℕ) (n : ℕ) where
  abbrev after_floor : Chain
  after_floor =
      16 unless is_clear f says (verdict f ≡ 0) ∷ 15 unless leb (schedule_length f) n says (schedule_length f ≤ n) ∷ 17 unless all_barred f says AllBarred f ∷ []

  sound_after : Sound after_floor
  sound_after = says_eq (verdict f) 0 then says_le (schedule_length f) n then says_barred f then done

  sound_schedule : Sound (schedule_checks f n)
  unfolding schedule_checks
  sound_schedule = sound_floor f before sound_after

  -- where no number is given there is room, and every strip has its steel
  good : schedule_number f n ≡ 0 → (schedule_length f ≤ n) × AllBarred f
  unfolding schedule_number schedule_checks Holds
  good z = let h = (success sound_after).0 (both_zero (sound_floor f) after_floor z).1 in (h.1.0, h.1.1.0)

module _ (f t : List ℕ) where
  pub schedule_answer_lem : {a : Answer} {u : List ℕ} → Scheduled f t a u → ScheduleAnswer f t a u
  unfolding schedule_number
  schedule_answer_lem p =
      by_says (says_eq (schedule_number f (length t)) 0)
      (λ z. let r = scheduled_is f t (sym z) in
      let g = good f (length t) z in
      rw (p.answer ∙ sym r.answer, p.schedule ∙ sym r.schedule)
      (record {
        given = (answers (sound_schedule f (length t)) 0).0 z;
        refused = λ n. absurd (n refl);
        written = λ _. (refl, schedule_of f t g.0 g.1);
      }))
      (λ n. let r = refused_is f t refl n in
      rw (p.answer ∙ sym r.answer, p.schedule ∙ sym r.schedule)
      (record { given = (answers (sound_schedule f (length t)) _).0 refl; refused = λ _. (refl, refl); written = λ z. absurd (n z) }))

  pub schedule_answer_one : {a b : Answer} {u w : List ℕ} → ScheduleAnswer f t a u → ScheduleAnswer f t b w → (a ≡ b) × (u ≡ w)
  schedule_answer_one {a} {b} p q =
      let e = given_one (schedule_checks f (length t)) p.given q.given in
      by_says (says_eq a.refusal 0)
      (λ z. let x = p.written z in
      let y = q.written (sym e ∙ z) in
      (same_answer a b e (x.0 ∙ sym y.0), schedule_of_one f x.1 y.1))
      (λ n. let x = p.refused n in
      let y = q.refused (λ z. n (e ∙ z)) in
      (same_answer a b e (x.0 ∙ sym y.0), x.1 ∙ sym y.1))

-- no floor has more than 312 records in its table
pub fits_most : (f : List ℕ) {n : ℕ} → schedule_most ≤ n → schedule_length f ≤ n
fits_most f h = le_trans (count_most f ⊗ # span_bytes) h

without_15 : (f : List ℕ) {n : ℕ} → schedule_length f ≤ n → schedule_number f n ≡ tried (roomy_checks f)
unfolding schedule_number schedule_checks tried
without_15 f {n} room =
    by_says (says_eq (tried (floor_checks f)) 0)
    (λ z. later (sound_floor f) _ z ∙ rw (le-leb (schedule_length f) n room) (sym (later (sound_floor f) _ z)))
    (λ z. earlier (floor_checks f) _ z ∙ sym (earlier (floor_checks f) _ z))

-- so with that room 15 is not given
pub never_short : {f t u : List ℕ} {a : Answer} → Scheduled f t a u → schedule_most ≤ length t → GivenBy (roomy_checks f) a.refusal
unfolding schedule_answer
never_short {f} {t} p h =
    (answers (sound_floor f before (says_eq (verdict f) 0 then says_barred f then done)) _).0
    (sym (without_15 f (fits_most f h)) ∙ sym (numbered (schedule_number f (length t)) (schedule_count f)) ∙ sym (ap (λ (x : Answer). x.refusal) p.answer))
  where
    -- the answer has the number that is given
    numbered : (m v : ℕ) → (cond (eqb m 0) (answer 0 v) (answer m 0)).refusal ≡ m
    numbered m v = by_test (λ (x : Answer). x.refusal ≡ m) (says_eq m 0) (λ z. sym z) (λ n. refl)
