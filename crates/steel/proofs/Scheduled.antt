-- The answer of the schedule, by the number that is given.
--     floor_refuses, not_clear, too_short, no_bars, all_good     which number is given
--     refused_is, scheduled_is, refused_floor                    the answer and the buffer by that number
--     sixteen, fifteen, has_room                                 16 and 15, of the floor that was surveyed
-- Assumes nothing.
use Prim.Native.Nat.{ℕ, ◌*◌, ◌≤◌, ◌<◌}
use mathlib.Core.Bool.{true, false}
use mathlib.Core.List.{List, [], ◌∷◌}
use mathlib.Core.Path.{◌≡◌, refl, sym, ap, ◌∙◌}
use native.Mathlib.Omega.{arith}
use lib.Dec.{leb}
use lib.ListN.{length}
use borrow.Author.Tests.{ne_eqb, le-leb, lt-leb, eq-eqb}
use Rattle.numbers.specs.Chains.{tried}
use Rattle.numbers.specs.Chains.Check.{◌unless◌says◌}
use Rattle.numbers.proofs.Chains.{stands, decides, stopped, went_on, ended}
use Rattle.floor.specs.Refusal.{floor_checks, refusal}
use Rattle.floor.proofs.Meaning.{sound_floor}
use Rattle.answers.specs.declared.Refusal.{Refusal}
use Rattle.answers.specs.Answers.{answer, number}
use Rattle.answers.proofs.Refusals.{positive}
use Rattle.limits.specs.Limits.{verdict, is_clear}
use Rattle.tables.specs.Places.{record_count}
use Rattle.steel.specs.Asked.{Roomy}
use Rattle.steel.specs.Barred.{AllBarred}
use Rattle.steel.specs.Schedule.{schedule_count, schedule_length, all_barred, scheduled, schedule_checks, schedule_number, schedule_answer, schedule_left, Scheduled}

module _ (f : List ℕ) (n : ℕ) where
  pub floor_refuses : {m : ℕ} → m ≡ refusal f → ¬ (m ≡ 0) → m ≡ schedule_number f n
  unfolding schedule_number schedule_checks refusal
  floor_refuses e h = stands (floor_checks f) _ e h

  module _ (e : refusal f ≡ 0) where
    pub not_clear : ¬ (verdict f ≡ 0) → 16 ≡ schedule_number f n
    unfolding schedule_number schedule_checks refusal
    not_clear h = decides (sound_floor f) _ refl e (stopped 16 (is_clear f) (verdict f ≡ 0) _ (ne_eqb (verdict f) 0 h))

    module _ (z : verdict f ≡ 0) where
      pub too_short : ¬ (schedule_length f ≤ n) → 15 ≡ schedule_number f n
      unfolding schedule_number schedule_checks refusal
      too_short h =
          decides (sound_floor f) _ refl e
          (went_on 16 (is_clear f) (verdict f ≡ 0) _ (eq-eqb (verdict f) 0 z)
          (stopped 15 (leb (schedule_length f) n) (schedule_length f ≤ n) _ (lt-leb (schedule_length f) n (omega (arith, h)))))

      module _ (room : schedule_length f ≤ n) where
        -- where 17 is left to try
        last : {m : ℕ} → m ≡ tried (17 unless all_barred f says AllBarred f ∷ []) → m ≡ schedule_number f n
        unfolding schedule_number schedule_checks refusal
        last h =
            decides (sound_floor f) _ refl e
            (went_on 16 (is_clear f) (verdict f ≡ 0) _ (eq-eqb (verdict f) 0 z)
            (went_on 15 (leb (schedule_length f) n) (schedule_length f ≤ n) _ (le-leb (schedule_length f) n room) h))

        pub no_bars : all_barred f ≡ false → 17 ≡ schedule_number f n
        no_bars h = last (stopped 17 (all_barred f) (AllBarred f) [] h)

        pub all_good : all_barred f ≡ true → 0 ≡ schedule_number f n
        all_good h = last (went_on 17 (all_barred f) (AllBarred f) [] h ended)

-- ---- the answer and the buffer

module _ (f t : List ℕ) where
  pub refused_is : {m : ℕ} → m ≡ schedule_number f (length t) → ¬ (m ≡ 0) → Scheduled f t (answer m 0) t
  unfolding schedule_answer schedule_left
  refused_is {m} e h = record { answer = rw (← e, ne_eqb m 0 h); schedule = rw (← e, ne_eqb m 0 h) }

  pub scheduled_is : 0 ≡ schedule_number f (length t) → Scheduled f t (answer 0 (schedule_count f)) (scheduled f t)
  unfolding schedule_answer schedule_left
  scheduled_is e = record { answer = rw (← e); schedule = rw (← e) }

  -- of a floor that is refused
  pub refused_floor : (r : Refusal) → number r ≡ refusal f → Scheduled f t (answer (number r) 0) t
  refused_floor r e = let n : ¬ (number r ≡ 0) = λ z. omega (arith, positive r, z) in refused_is (floor_refuses f (length t) e n) n

-- of the floor that was surveyed, which is f
module _ (f t : List ℕ) {g : List ℕ} (same : g ≡ f) (accepted : refusal f ≡ 0) {sum count : ℕ} (ev : sum ≡ verdict g) (ec : count ≡ record_count g) where
  room_is : schedule_length g ≡ count * 192
  room_is = omega (arith, ec)

  clear_f : sum ≡ 0 → verdict f ≡ 0
  clear_f z = sym (ev ∙ ap verdict same) ∙ z

  pub sixteen : ¬ (sum ≡ 0) → Scheduled f t (answer 16 0) t
  sixteen n = refused_is f t (not_clear f (length t) accepted (λ z. n (ev ∙ ap verdict same ∙ z))) (omega arith)

  pub fifteen : sum ≡ 0 → length t < count * 192 → Scheduled f t (answer 15 0) t
  fifteen z short =
      let long : schedule_length f ≡ count * 192 = sym (ap schedule_length same) ∙ room_is in
      refused_is f t (too_short f (length t) accepted (clear_f z) (λ h. omega (arith, h, short, long))) (omega arith)

  pub has_room : count * 192 ≤ length t → Roomy g t
  has_room h = record { room = omega (arith, h, room_is) }
