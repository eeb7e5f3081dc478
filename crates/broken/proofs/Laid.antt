-- Places laid into a slice one after another.
--     noted_in, noted_out     one place, with room for it or without
--     listed_none, listed_one, listed_more, next     none, one, some after others, and one list more of a loop
--     laid_in                 a slice with room for all of them has them at its start, and past them what it had
-- Assumes nothing.
use Prim.Native.Nat.{ℕ, ◌+◌, ◌*◌, ◌≤◌}
use mathlib.Core.Bool.{Bool, true, false}
use mathlib.Core.List.{List, [], ◌∷◌, ◌++◌, append_assoc}
use mathlib.Core.Path.{◌≡◌, refl, sym, ap, ◌∙◌}
use native.Mathlib.Nat.{add-zero}
use native.Mathlib.Numerals.{add-one}
use native.Mathlib.Omega.{arith}
use lib.ListN.{length, drop, length-append, length-drop}
use lib.Seq.{paste, take_at, drop-append-add, drop-drop}
use borrow.Author.Tests.{le-leb, lt-leb}
use Rattle.numbers.specs.Records.{put}
use Rattle.numbers.proofs.Tests.{says_le, by_test}
use Rattle.numbers.proofs.Records.{length_put}
use Rattle.broken.specs.declared.Place.{Place}
use Rattle.broken.specs.Numbers.{place_width, four_of, numbers_of, listed_in}
use Rattle.broken.specs.Listing.{gathered, whether}
use Rattle.broken.specs.Laid.{noted, laid, Listed}

module _ (n : ℕ) (p : Place) (t : List ℕ) where
  pub noted_in : {u : List ℕ} → n * place_width + place_width ≤ length t → u ≡ paste t (n * place_width) (four_of p) place_width → u ≡ noted n p t
  unfolding noted put
  noted_in room e = rw (le-leb (n * place_width + place_width) (length t) room) e

  pub noted_out : ¬ (n * place_width + place_width ≤ length t) → t ≡ noted n p t
  unfolding noted
  noted_out h = rw (lt-leb (n * place_width + place_width) (length t) (omega (arith, h)))

-- ---- lists after lists

laid_more : (n : ℕ) (a b : List Place) (t : List ℕ) → laid n (a ++ b) t ≡ laid (n + length a) b (laid n a t)
unfolding laid
laid_more n [] b t = rw add-zero
laid_more n (p ∷ a) b t = laid_more (n + 1) a b (noted n p t) ∙ ap (λ (k : ℕ). laid k b (laid (n + 1) a (noted n p t))) (omega arith)

pub listed_none : (n : ℕ) (t : List ℕ) → Listed n [] t n t
unfolding laid
listed_none n t = record { count = omega arith; slice = refl }

pub listed_one : (n : ℕ) (p : Place) (t : List ℕ) → Listed n (p ∷ []) t (n + 1) (noted n p t)
unfolding laid
listed_one n p t = record { count = refl; slice = refl }

-- the slice keeps its length
length_noted : (n : ℕ) (p : Place) (t : List ℕ) → length (noted n p t) ≡ length t
unfolding noted
length_noted n p t =
    by_test (λ (u : List ℕ). length u ≡ length t) (says_le (n * place_width + place_width) (length t))
    (λ room. length_put place_width n (four_of p) t room (omega arith)) (λ _. refl)

length_laid : (n : ℕ) (ps : List Place) (t : List ℕ) → length (laid n ps t) ≡ length t
unfolding laid
length_laid n [] t = refl
length_laid n (p ∷ ps) t = length_laid (n + 1) ps (noted n p t) ∙ length_noted n p t

pub length_listed : {n m : ℕ} {ps : List Place} {t u : List ℕ} → Listed n ps t m u → length u ≡ length t
length_listed {n} {ps = ps} {t} h = ap (λ (u : List ℕ). length u) h.slice ∙ length_laid n ps t

pub listed_more : {n m k : ℕ} {a b : List Place} {t u w : List ℕ} → Listed n a t m u → Listed m b u k w → Listed n (a ++ b) t k w
listed_more {n} {a = a} {b} {t} p q =
    record {
      count = omega (arith, p.count, q.count, length-append a b);
      slice = q.slice ∙ rw (p.count, p.slice) (sym (laid_more n a b t));
    }

-- ---- a loop

-- at a place that breaks the limit, and at one that does not
module _ (m : ℕ) (p : Place) {b : Bool} {u w : List ℕ} {k : ℕ} where
  pub found_turn : b ≡ true → w ≡ noted m p u → k ≡ m + 1 → Listed m (whether b p) u k w × (k ≤ m + 1)
  found_turn e ew ek = rw (e, ew, ek) (listed_one m p u, omega arith)

  pub missed_turn : b ≡ false → w ≡ u → k ≡ m → Listed m (whether b p) u k w × (k ≤ m + 1)
  missed_turn e ew ek = rw (e, ew, ek) (listed_none m u, omega arith)

pub none : (n : ℕ) (g : ℕ → List Place) (t : List ℕ) → Listed n (gathered 0 g) t n t
unfolding gathered
none n g t = listed_none n t

pub next : (i : ℕ) (g : ℕ → List Place) {n m k : ℕ} {t u w : List ℕ} → Listed n (gathered i g) t m u → Listed m (g i) u k w → Listed n (gathered (i + 1) g) t k w
unfolding gathered
next i g p q = rw add-one (listed_more p q)

-- ---- a slice with room for all

-- one place after `pre`
noted_after : (pre : List ℕ) (n : ℕ) (p : Place) (t : List ℕ) → length pre ≡ n * place_width → place_width ≤ length t
    → noted n p (pre ++ t) ≡ pre ++ four_of p ++ drop place_width t
noted_after pre n p t e room =
    sym (noted_in n p (pre ++ t) (omega (arith, length-append pre t, e))
    (sym (rw (take_at pre t (n * place_width) e, ← e, drop-append-add pre t place_width))))

laid_after : (pre : List ℕ) (n : ℕ) (ps : List Place) (t : List ℕ) → length pre ≡ n * place_width → length ps * place_width ≤ length t
    → laid n ps (pre ++ t) ≡ pre ++ listed_in ps t
unfolding laid numbers_of
laid_after pre n [] t e room = refl
laid_after pre n (p ∷ ps) t e room =
    let four = four_of p in
    let past : place_width + length ps * place_width ≡ length (p ∷ ps) * place_width = omega arith in
    ap (λ (u : List ℕ). laid (n + 1) ps u) (noted_after pre n p t e (omega (arith, room)))
    ∙ laid_after (pre ++ four) (n + 1) ps (drop place_width t) (omega (arith, length-append pre four, e)) (omega (arith, room, length-drop place_width t))
    ∙ append_assoc pre four (listed_in ps (drop place_width t))
    ∙ ap (λ (u : List ℕ). pre ++ (four ++ (numbers_of ps ++ u))) (drop-drop (length ps * place_width) place_width t ∙ ap (λ (k : ℕ). drop k t) past)
    ∙ ap (λ (u : List ℕ). pre ++ u) (sym (append_assoc four (numbers_of ps) (drop (length (p ∷ ps) * place_width) t)))

pub laid_in : (ps : List Place) (t : List ℕ) → length ps * place_width ≤ length t → laid 0 ps t ≡ listed_in ps t
laid_in ps t room = laid_after [] 0 ps t refl room
