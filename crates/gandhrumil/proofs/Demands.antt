-- The three demands, each from the laws of the layer that keeps it.
-- Assumes nothing.
use Prim.Native.Nat.{ℕ, zero, suc, ◌+◌, ◌*◌, ◌/◌, ◌%◌, ◌<◌}
use mathlib.Core.List.{List}
use mathlib.Core.Logic.{◌↔◌}
use mathlib.Core.Path.{◌≡◌, refl, sym, ap, subst, ◌∙◌}
use native.Mathlib.Omega.{arith}
use lib.ListN.{get_or}
use lib.Seq.{ext_get_or}
use Rattle.numbers.proofs.Tests.{says_eq, by_test, by_says}
use Rattle.floor.specs.Refusal.{refusal, Given}
use Rattle.floor.proofs.Meaning.{given}
use Rattle.changes.specs.Change.{change_kind, change_index, changed}
use Rattle.answers.specs.declared.Answer.{Answer}
use Rattle.limits.specs.Meaning.{Broken, Clear}
use Rattle.limits.proofs.Meaning.{broken, broken_one, clear_is}
use Rattle.verdict.proofs.Answers.{panel_answer}
use Rattle.clear.specs.Answers.{clear_of}
use Rattle.clear.proofs.Answers.{clear_answer}
use Rattle.broken.proofs.Meaning.{listed_broken, none_listed}
use Rattle.broken.proofs.Answers.{places_answer_lem}
use Rattle.broken.proofs.Most as places
use Rattle.plan.specs.Plan.{bays_of}
use Rattle.tables.specs.Width.{record_width}
use Rattle.tables.specs.Places.{Place, record_count, place_of}
use Rattle.tables.proofs.Numbered.{place_inside, place_number}
use Rattle.frames.specs.Table.{view_at}
use Rattle.frames.specs.Spans.{span_at}
use Rattle.supports.specs.Governing.{support_width, five_from, support_number, support_in}
use Rattle.supports.specs.Meaning.{GoverningAt}
use Rattle.supports.proofs.Faces.{length_on}
use Rattle.supports.proofs.Meaning.{governing_is}
use Rattle.moments.specs.Lent.{Lent}
use Rattle.moments.specs.Tables.{Lodged}
use Rattle.moments.specs.Opening.{open_refusal, Opened}
use Rattle.moments.specs.Changing.{change_number, Changed}
use Rattle.moments.specs.Meaning.{GivenOpening, GivenChanging, Supported, Agrees, LentOf, LentNamed, OpeningSays, ChangeSays}
use Rattle.moments.specs.Mornings.{Morning, standing}
use Rattle.moments.proofs.Room.{open_parts, open_whole, opening_stands, given_opening, given_changing}
use Rattle.moments.proofs.Meaning.{earned, lent_of, lent_of_one, opening_says, change_says, agrees}
use Rattle.moments.proofs.Sums.{adds_up}
use Rattle.moments.proofs.Governed.{agrees_at, by_zeros}
use Rattle.moments.proofs.Demand.{taken_of, morning, at_its_end}
use Rattle.steel.specs.Strips.{strips, by_strip, moment_number, strip_moment}
use Rattle.steel.proofs.Answers.{steel_answer}
use Rattle.steel.proofs.Inside.{in_range, layers}
use Rattle.steel.proofs.Lacking.{seventeen}
use Rattle.steel.proofs.Meaning as schedules
use Rattle.steel.proofs.Meaning.{schedule_answer_lem}
use Rattle.gandhrumil.specs.Demands.{Told, DemandOne, DemandTwo, DemandThree}

-- the five numbers of a support in the slice are the support's by the table, where the two agree
five_is : (f : List ℕ) (l : Lent) → Agrees f l → (p : Place) → Supported f p
    → five_from l.governing (support_number (bays_of f) p * support_width) ≡ support_in (bays_of f) l.table p
five_is f l agrees p h =
    ext_get_or 0 _ _ (sym (length_on l.table _ _ _)) (λ i hi. five_at l.governing (support_number (bays_of f) p * support_width) i hi ∙ agrees_at f l agrees p h i hi)
  where
    five_at : (g : List ℕ) (a i : ℕ) → i < 5 → get_or (five_from g a) i 0 ≡ get_or g (a + i) 0
    five_at g a zero hi = let e : a ≡ a + 0 = omega arith in ap (λ (j : ℕ). get_or g j 0) e
    five_at g a (suc zero) hi = refl
    five_at g a (suc (suc zero)) hi = refl
    five_at g a (suc (suc (suc zero))) hi = refl
    five_at g a (suc (suc (suc (suc zero)))) hi = refl
    five_at g a (suc (suc (suc (suc (suc i))))) hi = absurd (omega arith)

-- the verdict of a floor and its table, number by number
told : {f : List ℕ} {l l' : Lent} {v : ℕ} → refusal f ≡ 0 → Broken f v → LentOf f l l' → Told f l v l'
told {f} {l' = l'} accepted b lent =
    let table = lent.table in
    record {
      verdict = b;
      moments = λ clear p h. (table.stands clear p h, adds_up accepted clear table p h);
      none = table.broken;
      past = table.past;
      same_length = table.same_length;
      governing = lent.governing;
      supports = λ p h. subst (GoverningAt (bays_of f) l'.table p) (sym (five_is f l' lent.governing.agrees p h)) (governing_is (bays_of f) l'.table p);
      ungoverned = λ no p h n hn. agrees_at f l' lent.governing.agrees p h n hn ∙ by_zeros f accepted _ (table.broken no) p h n hn;
    }

-- no second verdict and no second table tell it
pub told_one : {f : List ℕ} {l u u' : Lent} {v w : ℕ} → refusal f ≡ 0 → Told f l v u → Told f l w u' → (v ≡ w) × (u ≡ u')
told_one {f} accepted p q = (broken_one p.verdict q.verdict, lent_of_one f accepted (held p) (held q))
  where
    held : {l u : Lent} {v : ℕ} → Told f l v u → LentOf f l u
    held x =
        record {
          table = record { same_length = x.same_length; past = x.past; stands = λ clear p h. (x.moments clear p h).0; broken = x.none };
          governing = x.governing;
        }

-- ---- opening

module _ {f : List ℕ} {l l' : Lent} {a : Answer} (o : Opened f l a l') where
  opening : OpeningSays f l a l'
  opening = opening_says o

  open_number : a.refusal ≡ opening.number
  open_number = opening.answer.refusal

  open_given : GivenOpening f l a.refusal
  open_given = subst (GivenOpening f l) (sym open_number) opening.given

  open_refused : ¬ (a.refusal ≡ 0) → l' ≡ l
  open_refused ne = opening.refused (λ z. ne (open_number ∙ z))

  refusal_opened : a.refusal ≡ open_refusal f l
  refusal_opened = sym ((given_opening _ f l).1 open_given)

  open_accepted : Lodged f l → (a.refusal ≡ 0) ↔ Given 0 f
  open_accepted room =
      (λ z. (given 0 f).0 (open_parts f l (sym refusal_opened ∙ z)).0, λ g. refusal_opened ∙ open_whole f l ((given 0 f).1 g) room)

  open_told : a.refusal ≡ 0 → Told f l a.value l'
  open_told z =
      let number : opening.number ≡ 0 = sym open_number ∙ z in
      told (open_parts f l (sym refusal_opened ∙ z)).0 (opening.answer.verdict number) (opening.filled number)

  -- where table and slice have room, the floor alone is refused
  same_number : Lodged f l → refusal f ≡ a.refusal
  same_number room =
      by_says (says_eq (refusal f) 0) (λ z. z ∙ sym (refusal_opened ∙ open_whole f l z room)) (λ n. opening_stands f l refl n ∙ sym refusal_opened)

  open_clear : Lodged f l → (((clear_of f).value ≡ 1) ↔ ((a.refusal ≡ 0) × (a.value ≡ 0))) × ((clear_of f).refusal ≡ a.refusal)
  open_clear room =
      let c = clear_answer f in (
        (
          λ e. let (g, n) = c.is_yes.0 e in
              let z = (open_accepted room).1 g in (z, (clear_is (open_told z).verdict).1 n),
          λ h. c.is_yes.1 ((open_accepted room).0 h.0, (clear_is (open_told h.0).verdict).0 h.1),
        ),
        sym ((given _ f).1 c.given) ∙ same_number room,
      )

  -- of record k of the table, the number for strip q of its span
  scheduled_moments : a.refusal ≡ 0 → a.value ≡ 0 → (k q : ℕ) → k < record_count f → q < strips
      → strip_moment (span_at f k) q ≡ get_or l'.table (k * record_width + moment_number q) 0
  unfolding strip_moment moment_number span_at view_at
  scheduled_moments z v k q below six =
      let t = open_told z in
      sym (ap (λ (j : ℕ). get_or l'.table (j * record_width + moment_number q) 0) (sym (place_number f below))
      ∙ (t.moments ((clear_is t.verdict).0 v) (place_of f k) (place_inside f below)).0 (moment_number q) (within q six))
    where
      within : (q : ℕ) → q < 6 → 1 + 5 * (q / 2) + by_strip q 4 2 < record_width
      within q six = by_test (λ (n : ℕ). 1 + 5 * (q / 2) + n < record_width) (says_eq (q % 2) 0) (λ _. omega arith) (λ _. omega arith)

-- ---- a change

module _ {f c f' : List ℕ} {l l' : Lent} {a : Answer} (o : Changed f l c a f' l') where
  change : ChangeSays f l c a f' l'
  change = change_says f c l o

  change_number_lem : a.refusal ≡ change.number
  change_number_lem = change.answer.refusal

  taken : a.refusal ≡ 0 → change.number ≡ 0
  taken z = sym change_number_lem ∙ z

  change_given : GivenChanging f l c a.refusal
  change_given = subst (GivenChanging f l c) (sym change_number_lem) change.given

  change_refused : ¬ (a.refusal ≡ 0) → (f' ≡ f) × (l' ≡ l)
  change_refused ne = change.refused (λ z. ne (change_number_lem ∙ z))

  change_verdict : a.refusal ≡ 0 → Broken f' a.value
  change_verdict z = rw (change.taken (taken z)) (change.answer.verdict (taken z))

  change_stored : a.refusal ≡ 0 → (f' ≡ changed f c) × (¬ (Clear f × Clear f') → Told f' l a.value l')
  change_stored z =
      let e = change.taken (taken z) in
      let number : change_number f l c ≡ 0 = (given_changing _ f l c).1 change.given ∙ taken z in
      (e, λ apart. told (rw e (taken_of f c l number).left) (change_verdict z) (rw e (change.whole (taken z) (λ both. apart (both.0, rw e both.1)))))

  change_written : a.refusal ≡ 0 → Clear f → Clear f' → LentNamed f' (change_kind c) (change_index c) l l'
  change_written z before after =
      let e = change.taken (taken z) in rw e (change.some (taken z) before (rw e at after))

-- ---- a morning

afterwards : {f f' : List ℕ} {l l₁ l' : Lent} {a : Answer} {cs : List (List ℕ)} {rs : List Answer}
    → Opened f l a l₁ → a.refusal ≡ 0 → Morning f l₁ cs rs f' l' → Told f' l (standing a.value rs) l'
afterwards {f' = f'} {l} o z m =
    let (ready, lent, stands) = at_its_end o z m in
    rw (lent, stands) (told ready.accepted (broken f' ready.accepted) (lent_of f' l ready.accepted ready.room))

-- ---- the demands

pub demand_one : DemandOne
demand_one =
    record {
      opening = λ o. (open_given o, earned (opening o).answer, open_refused o);
      change = λ o. (change_given o, earned (change o).answer, change_refused o);
      panel = panel_answer;
      steel = steel_answer;
      clear = clear_answer;
      places = λ {f = f} {t} p. places_answer_lem f t p;
      schedule = λ {f = f} {t} p. schedule_answer_lem f t p;
    }

pub demand_two : DemandTwo
demand_two =
    record {
      accepted = open_accepted;
      opening = open_told;
      change = change_verdict;
      clear = open_clear;
      places = λ o z h. (broken_one (listed_broken h) (open_told o z).verdict, none_listed h);
      suffices = λ {f = f} p h. (given _ f).0 (places.never_short f p h);
      moments = scheduled_moments;
      inside = λ f g c k q below wide. let e = (given 0 f).1 g in in_range f e ((clear_is (broken f e)).1 c) below q wide;
      layers = λ f g. layers f ((given 0 f).1 g);
      seventeen = λ {f = f} g c room p. let e = (given 0 f).1 g in seventeen f e ((clear_is (broken f e)).1 c) room p;
      schedule_suffices = schedules.never_short;
      steel = λ q h. let s = steel_answer q in
          ((λ e. (s.found.0 e).1, λ some. s.found.1 (h, some)), (λ e. (s.none.0 e).1, λ no. s.none.1 (h, no)), s.least);
    }

pub demand_three : DemandThree
demand_three = record { morning = morning; afterwards = afterwards; stored = change_stored; agrees = agrees; written = change_written }
