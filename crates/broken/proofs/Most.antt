-- How many numbers always suffice: a limit has no more places than its extent, and a floor of which limit 1 is broken has few panels.
--     along_most                 the places of a limit along d are no more than its rows times its columns
--     suffices                   793 places are the most
--     sure_room, never_short     so many numbers have room, and the floor's own number is given
-- Assumes nothing.
use Prim.Native.Nat.{ℕ, zero, suc, ◌+◌, ◌*◌, ◌-◌, ◌≤◌}
use mathlib.Core.Bool.{Bool, true, false}
use mathlib.Core.List.{List}
use mathlib.Core.Path.{◌≡◌, refl, sym, ap, ◌∙◌}
use native.Mathlib.Decide.{dec_lt}
use native.Mathlib.Nat.{mul-le-mul, suc-mul}
use native.Mathlib.Omega.{arith}
use lib.ListN.{length, length-append}
use borrow.Author.Tests.{le-ltb, le-leb}
use Rattle.numbers.proofs.Tests.{says_eq, by_says}
use Rattle.plan.specs.declared.ways.Way.{Way}
use Rattle.plan.specs.declared.ways.Way.TheVariants.{X, Y}
use Rattle.plan.specs.Plan.{bays, bays_of}
use Rattle.plan.proofs.Reading.{bays_most}
use Rattle.floor.specs.Refusal.{refusal}
use Rattle.answers.specs.declared.Answer.{Answer}
use Rattle.limits.specs.declared.Limit.{Limit}
use Rattle.limits.specs.declared.Limit.TheVariants.{Few, Slender, Uneven, Astray, Heavy, Unbalanced, Thin}
use Rattle.limits.specs.Places.{limit_at, extent, broken_at}
use Rattle.broken.specs.declared.Place.{Place}
use Rattle.broken.specs.Numbers.{place_width}
use Rattle.broken.specs.Listing.{gathered, whether, place, one_place, row_places, places_along, limit_places, places_of}
use Rattle.broken.specs.Answers.{has_room, Placed, places_most}
use Rattle.broken.proofs.Answers.{floor_refuses, room_suffices, refused_is, listed_is}

gathered_most : (n w : ℕ) (g : ℕ → List Place) → ((k : ℕ) → length (g k) ≤ w) → length (gathered n g) ≤ n * w
unfolding gathered
gathered_most zero w g h = omega arith
gathered_most (suc n) w g h = omega (arith, length-append (gathered n g) (g n), gathered_most n w g h, h n, suc-mul n w)

whether_most : (b : Bool) (p : Place) → length (whether b p) ≤ 1
whether_most true p = omega arith
whether_most false p = omega arith

module _ (f : List ℕ) where
  row_most : (l : Limit) (d : Way) (j : ℕ) → length (row_places f l d j) ≤ (extent l d (bays_of f)).x
  unfolding row_places
  row_most l d j =
      omega (arith, gathered_most (extent l d (bays_of f)).x 1 (one_place f l d j) (λ i. whether_most (broken_at f l d i j) (place l d i j)))

  along_most : (l : Limit) (d : Way) {x y : ℕ} → (extent l d (bays_of f)).x ≤ x → (extent l d (bays_of f)).y ≤ y → length (places_along f l d) ≤ y * x
  unfolding places_along
  along_most l d hx hy =
      omega (arith, gathered_most (extent l d (bays_of f)).y (extent l d (bays_of f)).x (row_places f l d) (row_most l d), mul-le-mul hy hx)

  limit_length : (l : Limit) → length (limit_places f l) ≡ length (places_along f l X) + length (places_along f l Y)
  unfolding limit_places
  limit_length l = length-append (places_along f l X) (places_along f l Y)

  -- 1: none along a direction of three bays or more
  few_none : (d : Way) → 3 ≤ bays f d → length (places_along f Few d) ≤ 0
  unfolding places_along row_places gathered
  few_none d h = rw (le-ltb (bays f d) 3 h) (omega arith)

  few_one : (d : Way) → length (places_along f Few d) ≤ 1
  few_one d = omega (arith, along_most Few d {x = 1} {y = 1} (omega arith) (omega arith))

  -- all seven
  whole : length (places_of f) ≡ length (limit_places f Few) + length (limit_places f Slender) + length (limit_places f Uneven) + length (limit_places f Astray)
      + length (limit_places f Heavy) + length (limit_places f Unbalanced) + length (limit_places f Thin)
  unfolding places_of gathered
  whole =
      let g : ℕ → List Place = λ k. limit_places f (limit_at k) in
      omega (
        arith,
        length-append (gathered 1 g) (g 1),
        length-append (gathered 2 g) (g 2),
        length-append (gathered 3 g) (g 3),
        length-append (gathered 4 g) (g 4),
        length-append (gathered 5 g) (g 5),
        length-append (gathered 6 g) (g 6),
      )

  -- panels, under x alone
  panels_most : (l : Limit) {x y : ℕ} → (extent l X (bays_of f)).x ≤ x → (extent l X (bays_of f)).y ≤ y → (extent l Y (bays_of f)).x ≤ 0 → (extent l Y (bays_of f)).y ≤ 0
      → length (limit_places f l) ≤ y * x
  panels_most l hx hy zx zy = omega (arith, limit_length l, along_most l X hx hy, along_most l Y zx zy)

  -- where the bays are at most x and y, and limit 1 has at most n places
  total : (x y n : ℕ) → bays f X ≤ x → bays f Y ≤ y → length (limit_places f Few) ≤ n
      → length (places_of f) ≤ n + 3 * (y * x) + (1 * (x - 1) + (y - 1) * 1) + 2 * ((y + 1) * (x + 1)) + 1 * 1
  total x y n hx hy hn =
      omega (
        arith,
        hn,
        whole,
        panels_most Slender hx hy (omega arith) (omega arith),
        panels_most Unbalanced hx hy (omega arith) (omega arith),
        panels_most Thin hx hy (omega arith) (omega arith),
        panels_most Heavy {x = 1} {y = 1} (omega arith) (omega arith) (omega arith) (omega arith),
        limit_length Uneven,
        along_most Uneven X {x = x - 1} {y = 1} (omega (arith, hx)) (omega arith),
        along_most Uneven Y {x = 1} {y = y - 1} (omega arith) (omega (arith, hy)),
        limit_length Astray,
        along_most Astray X {x = x + 1} {y = y + 1} (omega (arith, hx)) (omega (arith, hy)),
        along_most Astray Y {x = x + 1} {y = y + 1} (omega (arith, hx)) (omega (arith, hy)),
      )

  pub suffices : length (places_of f) * place_width ≤ places_most
  suffices =
      let few : length (limit_places f Few) ≤ 2 = omega (arith, limit_length Few, few_one X, few_one Y) in
      elim (dec_lt (bays f X) 3) [
        | yes h ↦ omega (arith, total 2 12 2 (omega arith) (bays_most f Y) few)
        | no h ↦
            elim (dec_lt (bays f Y) 3) [
              | yes k ↦ omega (arith, total 12 2 2 (bays_most f X) (omega arith) few)
              | no k ↦
                  let none : length (limit_places f Few) ≤ 0 = omega (arith, limit_length Few, few_none X (omega arith), few_none Y (omega arith)) in
                  omega (arith, total 12 12 0 (bays_most f X) (bays_most f Y) none)
            ]
      ]

  pub sure_room : (n : ℕ) → places_most ≤ n → true ≡ has_room f n
  unfolding has_room
  sure_room n h = sym (le-leb (length (places_of f) * place_width) n (omega (arith, h, suffices)))

  pub never_short : {t u : List ℕ} {a : Answer} → Placed f t a u → places_most ≤ length t → refusal f ≡ a.refusal
  never_short {t} p h =
      by_says (says_eq (refusal f) 0)
      (λ z. z ∙ sym (ap (λ (x : Answer). x.refusal) (p.answer ∙ sym (listed_is f t (room_suffices f (length t) z (omega (arith, h, suffices)))).answer)))
      (λ ne. sym (ap (λ (x : Answer). x.refusal) (p.answer ∙ sym (refused_is f t (floor_refuses f (length t) refl ne) ne).answer)))
