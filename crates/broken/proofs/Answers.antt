-- The answer is what `PlacesAnswer` asks, and no other is: its number is the one that is given, and the floor's places are one list.
--     floor_refuses, counted_room, no_room, room_suffices     which number is given
--     refused_is, listed_is, too_short, written     the answer and the slice by that number
--     places_answer_lem, places_answer_one    by statements, and no second answer
-- Assumes nothing.
use Prim.Native.Nat.{ℕ, ◌+◌, ◌*◌, ◌≤◌}
use mathlib.Core.Bool.{true, false}
use mathlib.Core.List.{List, []}
use mathlib.Core.Path.{◌≡◌, refl, sym, ap, ◌∙◌}
use native.Mathlib.Nat.{zero-add}
use native.Mathlib.Omega.{arith}
use lib.Dec.{leb}
use lib.ListN.{length}
use borrow.Author.Tests.{ne_eqb, le-leb}
use Rattle.numbers.specs.Chains.{Sound}
use Rattle.numbers.specs.Chains.Sound.{done, ◌then◌}
use Rattle.numbers.proofs.Tests.{says_le, says_eq, by_says}
use Rattle.numbers.proofs.Chains.{answers, given_one, stands, decides, stopped, went_on, ended, both_zero, ◌before◌}
use Rattle.floor.specs.Refusal.{floor_checks, refusal}
use Rattle.floor.proofs.Meaning.{sound_floor}
use Rattle.answers.specs.declared.Answer.{Answer}
use Rattle.answers.specs.Answers.{answer}
use Rattle.answers.proofs.Answers.{same_answer}
use Rattle.broken.specs.declared.Place.{Place}
use Rattle.broken.specs.Numbers.{place_width, listed_in}
use Rattle.broken.specs.Listing.{places_of}
use Rattle.broken.specs.Laid.{Listed}
use Rattle.broken.specs.Answers.{has_room, HasRoom, places_checks, places_refusal, places_answer, places_left, Placed, PlacesAnswer}
use Rattle.broken.proofs.Laid.{laid_in}
use Rattle.broken.proofs.Meaning.{places_are, places_one}

-- ---- the number that is given

module _ (f : List ℕ) (n : ℕ) where
  pub floor_refuses : {m : ℕ} → m ≡ refusal f → ¬ (m ≡ 0) → m ≡ places_refusal f n
  unfolding places_refusal places_checks refusal
  floor_refuses e h = stands (floor_checks f) _ e h

  -- the count, held against the length
  pub counted_room : {m : ℕ} → m ≡ 0 + length (places_of f) → leb (m * place_width) n ≡ has_room f n
  unfolding has_room
  counted_room e = rw (e ∙ zero-add (length (places_of f)))

  module _ (e : refusal f ≡ 0) where
    pub no_room : has_room f n ≡ false → 25 ≡ places_refusal f n
    unfolding places_refusal places_checks refusal
    no_room h = decides (sound_floor f) _ refl e (stopped 25 (has_room f n) (HasRoom f n) [] h)

    pub room_suffices : length (places_of f) * place_width ≤ n → 0 ≡ places_refusal f n
    unfolding places_refusal places_checks refusal has_room
    room_suffices h = decides (sound_floor f) _ refl e (went_on 25 (has_room f n) (HasRoom f n) [] (le-leb (length (places_of f) * place_width) n h) ended)

  sound_places : Sound (places_checks f n)
  unfolding places_checks has_room
  sound_places = sound_floor f before says_le (length (places_of f) * place_width) n then done

  accepted : places_refusal f n ≡ 0 → refusal f ≡ 0
  unfolding places_refusal places_checks refusal
  accepted z = (both_zero (sound_floor f) _ z).0

-- ---- the answer, and the slice afterwards

module _ (f t : List ℕ) where
  pub refused_is : {m : ℕ} → m ≡ places_refusal f (length t) → ¬ (m ≡ 0) → Placed f t (answer m 0) t
  unfolding places_answer places_left
  refused_is {m} e h = record { answer = rw (← e, ne_eqb m 0 h); slice = rw (← e, ne_eqb m 0 h) }

  pub listed_is : 0 ≡ places_refusal f (length t) → Placed f t (answer 0 (length (places_of f))) (listed_in (places_of f) t)
  unfolding places_answer places_left
  listed_is e = record { answer = rw (← e); slice = rw (← e) }

  module _ (e : refusal f ≡ 0) where
    pub too_short : false ≡ has_room f (length t) → Placed f t (answer 25 0) t
    too_short h = refused_is (no_room f (length t) e (sym h)) (λ z. omega (arith, z))

    pub written : true ≡ has_room f (length t) → {m : ℕ} {u : List ℕ} → Listed 0 (places_of f) t m u → Placed f t (answer 0 m) u
    unfolding has_room
    written h l =
        let room : length (places_of f) * place_width ≤ length t = (says_le (length (places_of f) * place_width) (length t)).holds (sym h) in
        let q = listed_is (room_suffices f (length t) e room) in
        record { answer = ap (answer 0) (l.count ∙ zero-add (length (places_of f))) ∙ q.answer; slice = l.slice ∙ laid_in (places_of f) t room ∙ q.slice }

  -- ---- by statements

  pub places_answer_lem : {a : Answer} {u : List ℕ} → Placed f t a u → PlacesAnswer f t a u
  unfolding places_refusal
  places_answer_lem p =
      by_says (says_eq (places_refusal f (length t)) 0)
      (λ z. let r = listed_is (sym z) in
      rw (p.answer ∙ sym r.answer, p.slice ∙ sym r.slice)
      (record {
        given = (answers (sound_places f (length t)) 0).0 z;
        refused = λ n. absurd (n refl);
        listed = λ _. (places_of f, places_are f (accepted f (length t) z), refl, refl);
      }))
      (λ n. let r = refused_is refl n in
      rw (p.answer ∙ sym r.answer, p.slice ∙ sym r.slice)
      (record { given = (answers (sound_places f (length t)) _).0 refl; refused = λ _. (refl, refl); listed = λ z. absurd (n z) }))

  pub places_answer_one : {a b : Answer} {u w : List ℕ} → PlacesAnswer f t a u → PlacesAnswer f t b w → (a ≡ b) × (u ≡ w)
  places_answer_one {a} {b} p q =
      let e = given_one (places_checks f (length t)) p.given q.given in
      by_says (says_eq a.refusal 0)
      (λ z. let (ps, hp, vp, tp) = p.listed z in
      let (qs, hq, vq, tq) = q.listed (sym e ∙ z) in
      let o = places_one hp hq in
      (same_answer a b e (vp ∙ ap (λ (x : List Place). length x) o ∙ sym vq), tp ∙ ap (λ (x : List Place). listed_in x t) o ∙ sym tq))
      (λ n. let x = p.refused n in
      let y = q.refused (λ z. n (e ∙ z)) in
      (same_answer a b e (x.0 ∙ sym y.0), x.1 ∙ sym y.1))
