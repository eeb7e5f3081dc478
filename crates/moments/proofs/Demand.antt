-- Demand 3, over any run of changes: by induction on the run, the floor held is accepted, what is lent has room for its table, and the
-- table held is its floor's, worked out afresh; so the verdict that stands at its end is the floor's (`at_its_end`).
-- Assumes nothing.
use Prim.Native.Nat.{ℕ}
use mathlib.Core.Bool.{Bool, true, false, cond}
use mathlib.Core.List.{List, [], ◌∷◌}
use mathlib.Core.Path.{◌≡◌, refl, sym, ap, ◌∙◌}
use native.Mathlib.Omega.{arith}
use borrow.Author.Tests.{ne_eqb}
use lib.Dec.{eqb}
use Rattle.numbers.specs.Tests.{Says}
use Rattle.numbers.proofs.Tests.{says_eq, by_test, by_says}
use Rattle.floor.specs.Refusal.{refusal}
use Rattle.changes.specs.Change.{changed}
use Rattle.changes.specs.Meaning.{TakenChange}
use Rattle.changes.proofs.Given.{taken}
use Rattle.answers.specs.declared.Answer.{Answer}
use Rattle.answers.specs.Answers.{answer, answered}
use Rattle.limits.specs.Limits.{verdict}
use Rattle.plan.specs.declared.ways.Way.TheVariants.{X, Y}
use Rattle.plan.specs.Plan.{bays_of}
use Rattle.numbers.specs.Records.{every}
use Rattle.supports.proofs.Governed.{length_governed, governed_past}
use Rattle.moments.specs.Lent.{Lent}
use Rattle.moments.specs.Tables.{fresh, afresh, room_checks, Lodged}
use Rattle.moments.specs.Opening.{open_refusal, Opened}
use Rattle.moments.specs.Changing.{changing_checks, change_number, regoverned, remade, floor_after, lent_after, Changed}
use Rattle.moments.specs.Meaning.{by_table}
use Rattle.moments.specs.Mornings.{Morning, placed, gave, standing, Held}
use Rattle.moments.specs.Mornings.Morning.{none, then}
use Rattle.moments.proofs.Room.{open_parts, change_parts}
use Rattle.moments.proofs.Fresh.{length_fresh, same_bays, count_kept, made_fresh}
use Rattle.moments.proofs.Governed.{same_lent, by_supports, agrees_at, governing_of}
use Rattle.moments.proofs.Agreement.{agrees_remade}

-- two choices by one test are equal where their first are, and their second
both_ways : {A B : Type 0} {b : Bool} {P : Type 0} {x y : A} {z w : B} → Says b P → (G : B → A) → (P → x ≡ G z) → y ≡ G w → cond b x y ≡ G (cond b z w)
both_ways {b = true} s G p q = p (s.holds refl)
both_ways {b = false} s G p q = q

-- ---- one change

module _ (f c : List ℕ) (l : Lent) where
  pub taken_of : change_number f l c ≡ 0 → TakenChange f c
  taken_of e = (taken f c).0 (change_parts f l c e).0

  pub lodged_changed : change_number f l c ≡ 0 → Lodged (changed f c) l
  lodged_changed z =
      let q = taken_of z in
      let room = (change_parts f l c z).1 in
      record { table = rw (count_kept f c q) room.table; governing = rw (same_bays f c q X, same_bays f c q Y) room.governing }

  -- the verdict that is answered is that of the floor left
  pub same_answer : answered (change_number f l c) (verdict (changed f c)) ≡ answered (change_number f l c) (verdict (floor_after f l c))
  same_answer =
      by_test (λ r. r ≡ answered (change_number f l c) (verdict (floor_after f l c))) (says_eq (change_number f l c) 0)
      (λ z. rw (z))
      (λ ne. by_test (λ r. answer (change_number f l c) 255 ≡ r) (says_eq (change_number f l c) 0) (λ z. absurd (ne z)) (λ _. refl))

-- no length changes where what is lent is worked out afresh, so no refusal does
room_kept : (f : List ℕ) (l : Lent) → Lodged f l → room_checks f (afresh f l) ≡ room_checks f l
unfolding room_checks
room_kept f l h = rw (length_fresh f l.table h.table, length_governed (bays_of f) every (fresh f l.table) l.governing h.governing)

module _ (f c : List ℕ) (l : Lent) (h : Lodged f l) where
  number_kept : change_number f (afresh f l) c ≡ change_number f l c
  unfolding change_number changing_checks
  number_kept = rw (room_kept f l h)

  -- what a change leaves of what was worked out afresh is worked out afresh
  made_afresh : (z : change_number f l c ≡ 0) → remade f c (afresh f l) ≡ afresh (changed f c) l
  unfolding regoverned
  made_afresh z = same_lent table governing
    where
      room : Lodged (changed f c) l
      room = lodged_changed f c l z

      lodged : Lodged (changed f c) (afresh f l)
      lodged = record { table = omega (arith, length_fresh f l.table h.table, room.table); governing = omega (arith, length_governed (bays_of f) every (fresh f l.table) l.governing h.governing, room.governing) }

      table : (remade f c (afresh f l)).table ≡ fresh (changed f c) l.table
      table = made_fresh f c (taken_of f c l z) l.table h.table

      governing : (remade f c (afresh f l)).governing ≡ (afresh (changed f c) l).governing
      governing =
          by_supports (changed f c) _ _
          (length_governed _ _ _ _ lodged.governing ∙ length_governed (bays_of f) every _ _ h.governing ∙ sym (length_governed _ every _ _ room.governing))
          (λ p hp n hn.
          agrees_at (changed f c) (remade f c (afresh f l)) (agrees_remade f c (taken_of f c l z) (afresh f l) lodged (governing_of f l (fresh f l.table) h.governing).agrees) p hp n hn
          ∙ ap (λ (t : List ℕ). by_table (changed f c) t p n) table
          ∙ sym (agrees_at (changed f c) (afresh (changed f c) l) (governing_of (changed f c) l (fresh (changed f c) l.table) room.governing).agrees p hp n hn))
          (λ i hi. governed_past _ _ _ _ lodged.governing i hi ∙ governed_past (bays_of f) every _ _ h.governing i (rw (same_bays f c (taken_of f c l z) X, same_bays f c (taken_of f c l z) Y) at hi) ∙ sym (governed_past _ every _ _ room.governing i hi))

  lent_after_lem : lent_after f (afresh f l) c ≡ afresh (floor_after f l c) l
  lent_after_lem =
      rw number_kept
      (both_ways (says_eq (change_number f l c) 0) (λ g. afresh g l) made_afresh refl)

-- ---- a run of them

-- a floor that is held, with room for its table
pub record Ready (f : List ℕ) (l : Lent) : Type 0 where
  pub accepted : refusal f ≡ 0
  pub room : Lodged f l

ready_after : (f c : List ℕ) (l : Lent) → Ready f l → Ready (floor_after f l c) l
ready_after f c l h =
    by_test (λ g. Ready g l) (says_eq (change_number f l c) 0)
    (λ z. record { accepted = (taken_of f c l z).left; room = lodged_changed f c l z }) (λ _. h)

-- one change before a run that keeps its promise
module _ {f c g : List ℕ} {l u v : Lent} {a : Answer} (r : Ready f l) (e : u ≡ afresh f l) (p : Changed f u c a g v) where
  number_is : change_number f u c ≡ change_number f l c
  number_is = ap (λ (x : Lent). change_number f x c) e ∙ number_kept f c l r.room

  floor_is : g ≡ floor_after f l c
  floor_is = p.floor ∙ rw number_is

  lent_is : v ≡ afresh g l
  lent_is = p.lent ∙ rw (e, floor_is) (lent_after_lem f c l r.room)

  answer_is : a ≡ answered (change_number f l c) (verdict (floor_after f l c))
  answer_is = p.answer ∙ rw number_is (same_answer f c l)

  ready_is : Ready g l
  ready_is = rw floor_is (ready_after f c l r)

  before : {h : List ℕ} {w : Lent} {cs : List (List ℕ)} {rs : List Answer} → Held g l cs rs h w → Held f l (c ∷ cs) (a ∷ rs) h w
  before q =
      record {
        floor = q.floor ∙ rw floor_is;
        lent = q.lent ∙ rw floor_is;
        answers = ap (λ (x : List Answer). a ∷ x) q.answers ∙ rw (floor_is, answer_is);
      }

run : (l : Lent) {f g : List ℕ} {u w : Lent} {cs : List (List ℕ)} {rs : List Answer} → Ready f l → u ≡ afresh f l → Morning f u cs rs g w → Held f l cs rs g w
run l r e none = record { floor = refl; lent = e; answers = refl }
run l r e (then p m) = before r e p (run l (ready_is r e p) (lent_is r e p) m)

-- ---- what stands at its end

-- the verdict that stands after one change is that of the floor left
stands_next : (f c : List ℕ) (l : Lent)
    → (let a = answered (change_number f l c) (verdict (floor_after f l c)) in cond (eqb a.refusal 0) a.value (verdict f)) ≡ verdict (floor_after f l c)
stands_next f c l = by_says (says_eq (change_number f l c) 0) (λ z. rw z) (λ ne. let no = ne_eqb (change_number f l c) 0 ne in rw no (rw no))

stands_last : (l : Lent) (f : List ℕ) (cs : List (List ℕ)) → standing (verdict f) (gave f l cs) ≡ verdict (placed f l cs)
stands_last l f [] = refl
stands_last l f (c ∷ cs) =
    ap (λ (v : ℕ). standing v (gave (floor_after f l c) l cs)) (stands_next f c l) ∙ stands_last l (floor_after f l c) cs

ready_placed : (l : Lent) (f : List ℕ) (cs : List (List ℕ)) → Ready f l → Ready (placed f l cs) l
ready_placed l f [] h = h
ready_placed l f (c ∷ cs) h = ready_placed l (floor_after f l c) cs (ready_after f c l h)

-- "The floor is then the first one with each change not refused put in its place in turn, the table equals that floor's table worked out
-- afresh, and each change not refused gave the verdict of the floor it made."
opened_number : {f : List ℕ} {l u : Lent} {a : Answer} → Opened f l a u → a.refusal ≡ 0 → open_refusal f l ≡ 0
opened_number {f} {l} o z =
    by_test (λ (x : Answer). x.refusal ≡ 0 → open_refusal f l ≡ 0) (says_eq (open_refusal f l) 0) (λ q _. q) (λ _ q. q)
    (ap (λ (x : Answer). x.refusal) (sym o.answer) ∙ z)

opened_ready : {f : List ℕ} {l u : Lent} {a : Answer} → Opened f l a u → a.refusal ≡ 0 → Ready f l
opened_ready {f} {l} o z = let parts = open_parts f l (opened_number o z) in record { accepted = parts.0; room = parts.1 }

pub morning : {f g : List ℕ} {l u w : Lent} {a : Answer} {cs : List (List ℕ)} {rs : List Answer}
    → Opened f l a u → a.refusal ≡ 0 → Morning f u cs rs g w → Held f l cs rs g w
morning {l = l} o z m = run l (opened_ready o z) (o.lent ∙ rw (opened_number o z)) m

-- the floor at its end is accepted and has room, and the verdict that stands is its own
pub at_its_end : {f g : List ℕ} {l u w : Lent} {a : Answer} {cs : List (List ℕ)} {rs : List Answer}
    → Opened f l a u → a.refusal ≡ 0 → Morning f u cs rs g w → Ready g l × (w ≡ afresh g l) × (standing a.value rs ≡ verdict g)
at_its_end {f} {l = l} {a = a} {cs = cs} o z m =
    let held = morning o z m in
    let value : a.value ≡ verdict f = ap (λ (x : Answer). x.value) o.answer ∙ rw (opened_number o z) in (
      rw held.floor (ready_placed l f cs (opened_ready o z)),
      rw held.floor held.lent,
      rw (held.floor, held.answers, value) (stands_last l f cs),
    )
