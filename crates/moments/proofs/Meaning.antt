-- Opening and a change answer and leave what their statements say, and nothing else does.
-- Assumes nothing.
use Prim.Native.Nat.{ℕ}
use mathlib.Core.Bool.{◌&&◌}
use mathlib.Core.List.{List}
use mathlib.Core.Path.{◌≡◌, refl, sym, subst, ◌∙◌}
use native.Mathlib.Omega.{arith}
use borrow.Author.Tests.{ne_eqb}
use Rattle.numbers.specs.Tests.{Says}
use Rattle.numbers.proofs.Tests.{says_eq, says_and, by_says, fails}
use Rattle.floor.specs.Refusal.{refusal}
use Rattle.changes.specs.Change.{change_kind, change_index, changed}
use Rattle.answers.specs.declared.Answer.{Answer}
use Rattle.answers.specs.Answers.{answered}
use Rattle.limits.specs.Limits.{verdict, is_clear}
use Rattle.limits.specs.Meaning.{Clear}
use Rattle.limits.proofs.Meaning.{broken, broken_one, says_clear}
use Rattle.answers.proofs.Answers.{same_answer}
use Rattle.moments.specs.Lent.{Lent}
use Rattle.moments.specs.Tables.{fresh, afresh, Lodged}
use Rattle.moments.specs.Opening.{open_refusal, Opened}
use Rattle.moments.specs.Changing.{change_number, rewritten, regoverned, floor_after, lent_after, Changed}
use Rattle.moments.specs.Meaning.{Agrees, LentOf, LentNamed, Judged, Earned, OpeningSays, ChangeSays}
use Rattle.moments.proofs.Governed.{same_lent, governing_of, governing_of_one, governing_named, governing_named_one}
use Rattle.moments.proofs.Agreement.{says_written, agrees_remade}
use Rattle.moments.proofs.Demand.{taken_of, lodged_changed}
use Rattle.moments.proofs.Room.{open_parts, given_opening, given_changing}
use Rattle.moments.proofs.Numbers.{table_of, named_of, table_of_one, named_of_one}

-- ---- the answer

pub judged : (g : List ℕ) (number : ℕ) → (number ≡ 0 → refusal g ≡ 0) → Judged g number (answered number (verdict g))
judged g number accepted =
    by_says (says_eq number 0)
    (λ z. rw z (record { refusal = refl; refused = λ ne. absurd (ne refl); verdict = λ _. broken g (accepted z) }))
    (λ ne. rw (ne_eqb number 0 ne) (record { refusal = refl; refused = λ _. refl; verdict = λ z. absurd (ne z) }))

pub judged_one : {g : List ℕ} {number : ℕ} {a b : Answer} → Judged g number a → Judged g number b → a ≡ b
judged_one {g} {number} p q =
    same_answer _ _ (p.refusal ∙ sym q.refusal)
    (by_says (says_eq number 0) (λ z. broken_one (p.verdict z) (q.verdict z)) (λ ne. p.refused ne ∙ sym (q.refused ne)))

-- 255 is answered exactly by what is refused: a verdict is at most 127
pub earned : {g : List ℕ} {number : ℕ} {a : Answer} → Judged g number a → Earned a
earned p = (λ e z. absurd (omega (arith, (p.verdict (sym p.refusal ∙ z)).most)), λ ne. p.refused (λ z. ne (p.refusal ∙ z)))

-- ---- everything lent

pub lent_of : (f : List ℕ) (l : Lent) → refusal f ≡ 0 → Lodged f l → LentOf f l (afresh f l)
lent_of f l e room =
    record { table = table_of f l.table room.table e; governing = governing_of f l (fresh f l.table) room.governing }

pub lent_of_one : (f : List ℕ) → refusal f ≡ 0 → {l u v : Lent} → LentOf f l u → LentOf f l v → u ≡ v
lent_of_one f e p q =
    let same = table_of_one f e p.table q.table in same_lent same (governing_of_one f same p.governing q.governing)

-- ---- opening

pub opening_says : {f : List ℕ} {l l' : Lent} {a : Answer} → Opened f l a l' → OpeningSays f l a l'
opening_says {f} {l} o =
    record {
      number = open_refusal f l;
      given = (given_opening _ f l).0 refl;
      answer = rw o.answer (judged f (open_refusal f l) (λ z. (open_parts f l z).0));
      refused = λ ne. o.lent ∙ rw (ne_eqb (open_refusal f l) 0 ne);
      filled = λ z. let parts = open_parts f l z in rw (o.lent, z) (lent_of f l parts.0 parts.1);
    }

pub opening_one : {f : List ℕ} {l u v : Lent} {a b : Answer} → OpeningSays f l a u → OpeningSays f l b v → (a ≡ b) × (u ≡ v)
opening_one {f} {l} {b = b} p q =
    let e : p.number ≡ q.number = sym ((given_opening _ f l).1 p.given) ∙ (given_opening _ f l).1 q.given in (
      judged_one p.answer (subst (λ n. Judged f n b) (sym e) q.answer),
      by_says (says_eq p.number 0) (λ z. lent_of_one f (open_parts f l ((given_opening _ f l).1 p.given ∙ z)).0 (p.filled z) (q.filled (sym e ∙ z)))
          (λ ne. p.refused ne ∙ sym (q.refused (λ z. ne (e ∙ z)))),
    )

-- ---- a change

module _ (f c : List ℕ) (l : Lent) where
  abbrev g : List ℕ
  g = changed f c

  abbrev number : ℕ
  number = change_number f l c

  both_clear : number ≡ 0 → Says (is_clear f && is_clear g) (Clear f × Clear g)
  both_clear z = let taken = taken_of f c l z in says_and (says_clear f taken.held) (says_clear g taken.left)

  whole_table : number ≡ 0 → ¬ (Clear f × Clear g) → LentOf g l (lent_after f l c)
  unfolding rewritten regoverned
  whole_table z ne = rw (z, fails (both_clear z) ne) (lent_of g l (taken_of f c l z).left (lodged_changed f c l z))

  some_records : number ≡ 0 → Clear f → Clear g → LentNamed g (change_kind c) (change_index c) l (lent_after f l c)
  unfolding rewritten regoverned
  some_records z p q =
      let room = lodged_changed f c l z in
      rw (z, (both_clear z).passes (p, q))
      (record {
        table = named_of g l.table room.table (change_kind c) (change_index c);
        governing = governing_named g l _ room.governing (change_kind c) (change_index c) (says_written f c (taken_of f c l z));
      })

  lent_named_one : number ≡ 0 → {u v : Lent} → LentNamed g (change_kind c) (change_index c) l u → LentNamed g (change_kind c) (change_index c) l v → u ≡ v
  lent_named_one z p q =
      let same = named_of_one g p.table q.table in
      same_lent same (governing_named_one g (says_written f c (taken_of f c l z)) same p.governing q.governing)

  pub change_says : {a : Answer} {f' : List ℕ} {l' : Lent} → Changed f l c a f' l' → ChangeSays f l c a f' l'
  change_says o =
      record {
        number = number;
        given = (given_changing _ f l c).0 refl;
        answer = rw o.answer (judged g number (λ z. (taken_of f c l z).left));
        refused = λ ne. (o.floor ∙ rw (ne_eqb number 0 ne), o.lent ∙ rw (ne_eqb number 0 ne));
        taken = λ z. o.floor ∙ rw z;
        whole = λ z ne. rw o.lent (whole_table z ne);
        some = λ z p q. rw o.lent (some_records z p q);
      }

  pub change_one : {a b : Answer} {h k : List ℕ} {u v : Lent} → ChangeSays f l c a h u → ChangeSays f l c b k v → (a ≡ b) × (h ≡ k) × (u ≡ v)
  change_one {a} {b} p q =
      let e : p.number ≡ q.number = sym ((given_changing _ f l c).1 p.given) ∙ (given_changing _ f l c).1 q.given in (
        judged_one p.answer (subst (λ n. Judged g n b) (sym e) q.answer),
        by_says (says_eq p.number 0) (λ z. p.taken z ∙ sym (q.taken (sym e ∙ z))) (λ ne. (p.refused ne).0 ∙ sym (q.refused (λ z. ne (e ∙ z))).0),
        by_says (says_eq p.number 0)
            (λ z. let taken : number ≡ 0 = (given_changing _ f l c).1 p.given ∙ z in
            by_says (both_clear taken)
            (λ y. lent_named_one taken (p.some z y.0 y.1) (q.some (sym e ∙ z) y.0 y.1))
            (λ no. lent_of_one g (taken_of f c l taken).left (p.whole z no) (q.whole (sym e ∙ z) no)))
            (λ ne. (p.refused ne).1 ∙ sym (q.refused (λ z. ne (e ∙ z))).1),
      )

  -- ---- "If the slice agreed with the table before a change, it agrees with it after"

  after_change : Agrees f l → Agrees (floor_after f l c) (lent_after f l c)
  after_change agree =
      by_says (says_eq number 0) (λ z. rw z (agrees_remade f c (taken_of f c l z) l (lodged_changed f c l z) agree))
      (λ ne. rw (ne_eqb number 0 ne) agree)

pub agrees : {f c f' : List ℕ} {l l' : Lent} {a : Answer} → Changed f l c a f' l' → Agrees f l → Agrees f' l'
agrees {f} {c} {l = l} o agree = rw (o.floor, o.lent) (after_change f c l agree)
