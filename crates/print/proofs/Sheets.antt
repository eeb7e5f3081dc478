-- The two ways that a sheet begins: with its first line alone, or with the records of the table that opening filled to follow. Either way the
-- line and the records are the sheet's text (whole), and nothing else keeps the promise (began_one).
-- Assumes nothing.
use Prim.Native.Nat.{ℕ, ◌+◌, ◌≤◌, zero-le}
use mathlib.Core.List.{List, [], ◌∷◌, ◌++◌}
use mathlib.Core.Path.{◌≡◌, refl, sym, ap, ◌∙◌}
use native.Mathlib.Decide.{dec_le}
use native.Mathlib.Omega.{arith}
use lib.ListN.{length, length-append}
use borrow.Author.Tests.{ne_eqb, eq-eqb}
use Rattle.numbers.proofs.Tests.{says_eq, by_test, by_says}
use Rattle.sheets.specs.Text.{line, lines}
use Rattle.sheets.specs.Wrote.{Wrote}
use Rattle.sheets.proofs.Writing.{wrote_as, wrote_one}
use Rattle.sheets.proofs.Growing.{grew_as}
use Rattle.std.specs.declared.option.Option.{Option}
use Rattle.std.specs.Io.KnownBytes.{Appends}
use Rattle.std.proofs.KnownBytes.{Appends-trans}
use Rattle.answers.specs.declared.Answer.{Answer}
use Rattle.limits.specs.Limits.{verdict}
use Rattle.tables.specs.Width.{record_width}
use Rattle.tables.specs.Places.{record_count}
use Rattle.numbers.proofs.Chains.{stands}
use Rattle.plan.specs.declared.ways.Way.TheVariants.{X, Y}
use Rattle.plan.specs.Plan.{bays_of}
use Rattle.plan.proofs.Reading.{bays_most}
use Rattle.floor.specs.Refusal.{floor_checks, refusal}
use Rattle.tables.proofs.Numbered.{count_most}
use Rattle.supports.proofs.Supports.{support_most}
use Rattle.moments.specs.Lent.{Lent, lent}
use Rattle.moments.specs.Tables.{fresh, afresh, room_checks, Lodged}
use Rattle.moments.specs.Opening.{open_checks, open_refusal, Opened}
use Rattle.moments.proofs.Room.{open_whole}
use Rattle.answers.specs.Answers.{answered, verdict_answer}
use Rattle.answers.specs.declared.Refusal.{Refusal}
use Rattle.std.specs.Prelude.{Result}
use Rattle.print.specs.Sheet.{answer_of, first_line, record_lines, sheet_text, Began, Space}
use Rattle.print.specs.declared.Start.{Start}

-- a refused floor is answered 255
not_refused : (number v : ℕ) → (answered number v).value ≡ 0 → number ≡ 0
not_refused number v =
    by_test (λ (a : Answer). a.value ≡ 0 → number ≡ 0) (says_eq number 0) (λ z _. z) (λ _ e. absurd (omega arith))

-- what C sees of the outcome is what is printed
pub opened_as : {f : List ℕ} {l u : Lent} {a : Answer} (r : Result ℕ Refusal) → a ≡ verdict_answer r → Opened f l (verdict_answer r) u → Opened f l a u
opened_as r e o = rw e o

module _ {f : List ℕ} {l u : Lent} {a : Answer} {old mid : List ℕ} {m : ℕ} (o : Opened f l a u)
    (w : Wrote old 0 (line (a.refusal ∷ a.value ∷ [])) mid m) where
  first : Wrote old 0 (first_line f l) mid m
  first = wrote_as (rw o.answer) w

  opened : Opened f l (answer_of f l) u
  opened = record { answer = refl; lent = o.lent }

  value_of : a.value ≡ (answer_of f l).value
  value_of = ap (λ (x : Answer). x.value) o.answer

  pub ends_there : (a.value ≡ 0 → ⊥) → Began f l old (record { end = m; records = 0 }) u mid
  ends_there ne = record {
    first = first;
    opened = opened;
    follow = sym (rw (ne_eqb (answer_of f l).value 0 (λ z. ne (value_of ∙ z))));
    most = zero-le;
  }

  pub goes_on : {n : ℕ} → a.value ≡ 0 → n ≡ record_count f → n ≤ 312 → Began f l old (record { end = m; records = n }) u mid
  goes_on z e few = record { first = first; opened = opened; follow = rw (eq-eqb (answer_of f l).value 0 (sym value_of ∙ z)) e; most = few }

module _ {f : List ℕ} {l : Lent} {out : List ℕ} {r : Start} {l' : Lent} {out' : List ℕ} (b : Began f l out r l' out') where
  filled : (answer_of f l).value ≡ 0 → l'.table ≡ fresh f l.table
  filled z =
      let e : l' ≡ afresh f l = b.opened.lent ∙ rw (not_refused (open_refusal f l) (verdict f) z) in ap (λ (x : Lent). x.table) e

  rest : lines record_width r.records l'.table ≡ record_lines f l
  rest =
      elim (dec_le (answer_of f l).value 0) [
        | yes h ↦
            let z : (answer_of f l).value ≡ 0 = omega (arith, h) in
            let e : r.records ≡ record_count f = rw (eq-eqb (answer_of f l).value 0 z) at b.follow in
            rw (eq-eqb (answer_of f l).value 0 z, e, filled z)
        | no h ↦
            let ne : (answer_of f l).value ≡ 0 → ⊥ = λ z. h (omega (arith, z)) in
            let e : r.records ≡ 0 = rw (ne_eqb (answer_of f l).value 0 ne) at b.follow in
            rw (ne_eqb (answer_of f l).value 0 ne, e)
      ]

  -- the bytes of the first line, and of the records that follow
  pub whole : {x y : ℕ} → x ≡ length (first_line f l) → y ≡ length (lines record_width r.records l'.table) → x + y ≡ length (sheet_text f l)
  unfolding sheet_text
  whole e g = omega (arith, e, g, ap length rest, length-append (first_line f l) (record_lines f l))

  -- and what a writer holds after both
  pub whole_text : (x y z : Option (List ℕ)) → Appends x y (first_line f l) → Appends y z (lines record_width r.records l'.table) → Appends x z (sheet_text f l)
  unfolding sheet_text
  whole_text x y z h q =
      grew_as x z (ap (λ (t : List ℕ). first_line f l ++ t) rest) (Appends-trans x y z (first_line f l) (lines record_width r.records l'.table) h q)

-- no second answer, slice or buffer
pub began_one : {f out out' v' : List ℕ} {l l' u' : Lent} {r s : Start} → Began f l out r l' out' → Began f l out s u' v' →
    (r.end ≡ s.end) × (r.records ≡ s.records) × (l' ≡ u') × (out' ≡ v')
began_one b d = (
  (wrote_one b.first d.first).0,
  b.follow ∙ sym d.follow,
  b.opened.lent ∙ sym d.opened.lent,
  (wrote_one b.first d.first).1,
)

-- with room for any floor neither 8 nor 13 is ever given: the number is the floor's own
pub never_short : (f : List ℕ) {t g : List ℕ} → Space t g → open_refusal f (lent t g) ≡ refusal f
unfolding open_refusal open_checks refusal
never_short f {t} {g} space =
    by_says (says_eq (refusal f) 0) (λ z. open_whole f (lent t g) z lodged ∙ sym z) (λ ne. sym (stands (floor_checks f) (room_checks f (lent t g)) refl ne))
  where
    lodged : Lodged f (lent t g)
    lodged =
        record {
          table = omega (arith, space.numbers, count_most f);
          governing = omega (arith, space.supports, support_most {b = bays_of f} (record { x = bays_most f X; y = bays_most f Y }));
        }
