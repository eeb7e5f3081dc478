-- Each way out of opening and of a change, with what was answered on it as premises; and the whole table, written by naming all or by zeros.
-- Assumes nothing.
use Prim.Native.Nat.{ℕ, ◌≤◌, ◌<◌}
use mathlib.Core.Bool.{Bool, true, false, cond, ◌&&◌}
use mathlib.Core.List.{List}
use mathlib.Core.Path.{◌≡◌, refl, sym, ap, ◌∙◌}
use native.Mathlib.Omega.{arith}
use lib.Dec.{eqb}
use lib.ListN.{length}
use borrow.Author.Tests.{ne_eqb, eqb-true, eqb-false}
use Rattle.numbers.specs.Records.{every}
use Rattle.numbers.proofs.Tests.{says_itself, says_and}
use Rattle.numbers.proofs.Written.{same_written}
use Rattle.records.specs.Kinds.{count_of}
use Rattle.records.proofs.Places.{count_most}
use Rattle.plan.specs.declared.ways.Way.{Way}
use Rattle.plan.specs.declared.ways.Way.TheVariants.{X, Y}
use Rattle.plan.specs.declared.read.Bays.{Bays}
use Rattle.plan.specs.Ways.{span_kind}
use Rattle.plan.specs.Plan.{bays, bays_of, many}
use Rattle.plan.proofs.Reading.{bays_most}
use Rattle.plan.proofs.Directions.{span_count}
use Rattle.changes.specs.Change.{change_kind, change_index, changed}
use Rattle.changes.specs.Meaning.{TakenChange}
use Rattle.changes.proofs.Kept.{many_kept}
use Rattle.std.specs.Prelude.{Ok, Err}
use Rattle.answers.specs.declared.Refusal.{Refusal}
use Rattle.answers.specs.Answers.{answer, number, verdict_answer}
use Rattle.answers.proofs.Refusals.{not_zero}
use Rattle.floor.specs.Refusal.{refusal}
use Rattle.limits.specs.Limits.{verdict, is_clear}
use Rattle.tables.specs.Width.{record_width}
use Rattle.lines.specs.declared.slab.Slab.{Slab}
use Rattle.lines.specs.Slabs.{slab_of}
use Rattle.lines.proofs.Slabs.{sized_of}
use Rattle.tables.specs.Places.{record_count}
use Rattle.tables.specs.Named.{named_at}
use Rattle.tables.specs.Blank.{zeros, blanked}
use Rattle.tables.specs.Meaning.Names.{loads}
use Rattle.tables.proofs.Numbered.{bayed}
use Rattle.tables.proofs.Meaning.{says_named_at}
use Rattle.supports.specs.Governing.{support_width, spans_of, support_count, support_at, governed}
use Rattle.supports.specs.Beside.{beside_at}
use Rattle.supports.specs.Asked.{Supporting}
use Rattle.supports.proofs.Besides.{spans_are, all_beside}
use Rattle.lines.specs.Rows.{AllAlphas}
use Rattle.frames.specs.Asked.{Listed, InTable, Writable}
use Rattle.frames.proofs.Frames.{in_table as table_named}
use Rattle.frames.specs.Table.{record_at, named_written}
use Rattle.moments.specs.Lent.{Lent, lent}
use Rattle.moments.specs.Tables.{right_record, fresh, afresh}
use Rattle.moments.specs.Opening.{open_refusal, Opened}
use Rattle.moments.specs.Changing.{change_number, rewritten, regoverned, remade_of, remade, Changed}
use Rattle.moments.specs.Asked.{Settling, Judging, Rewriting}
use Rattle.moments.proofs.Fresh.{right_clear}
use Rattle.moments.proofs.Governed.{same_lent, some_spans}
use Rattle.moments.proofs.Room.{open_parts}
use Rattle.moments.proofs.Demand.{taken_of, lodged_changed}

-- ---- the whole table

module _ (f t : List ℕ) where
  -- a change of the loads names every record
  all_named : verdict f ≡ 0 → named_written f 3 0 t ≡ fresh f t
  unfolding named_written fresh
  all_named e =
      same_written record_width (named_at f 3 0) every (record_at f) (right_record f) 0 (record_count f) t
      (λ k _ h. (says_named_at f 3 0 (omega arith)).passes (loads refl)) (λ k _ h. sym (right_clear f e k))

  all_blank : ¬ (verdict f ≡ 0) → blanked (record_count f) t ≡ fresh f t
  unfolding blanked fresh right_record
  all_blank ne = same_written record_width every every zeros (right_record f) 0 (record_count f) t (λ k _ h. refl) (λ k _ h. rw (ne_eqb (verdict f) 0 ne))

  module _ {stands : Bool} (h : Judging f t stands) where
    stands_clear : stands ≡ true → verdict f ≡ 0
    stands_clear e = eqb-true (verdict f) 0 (sym h.verdict ∙ e)

    pub writable : {a : List (List ℕ)} {kind index : ℕ} → stands ≡ true → AllAlphas f a → Listed f kind index → Writable f t a kind index
    writable e known there = record { stands = record { clear = stands_clear e; table = h.table }; alphas = known; listed = there }

    pub in_table : {slab : Slab} {a : List (List ℕ)} {kind index : ℕ} → refusal f ≡ 0 → slab ≡ slab_of f → AllAlphas f a → stands ≡ true
        → Listed f kind index → InTable f t slab a kind index
    in_table accepted shared known e there = table_named accepted shared (writable e known there)

    pub filled_all : {u : List ℕ} → stands ≡ true → u ≡ named_written f 3 0 t → u ≡ fresh f t
    filled_all e q = q ∙ all_named (stands_clear e)

-- by a change of a record that is there, where the verdict before was clear or not
module _ (f t : List ℕ) (before : Bool) {after both : Bool} {kind index : ℕ} (h : Rewriting f t after kind index) (e : both ≡ (before && after)) where
  after_clear : both ≡ true → after ≡ true
  after_clear q = ((says_and (says_itself before) (says_itself after)).holds (sym e ∙ q)).1

  pub named_writable : {a : List (List ℕ)} → both ≡ true → AllAlphas f a → Writable f t a kind index
  named_writable q known = writable f t h.judging (after_clear q) known h.listed

  pub named_in_table : {slab : Slab} {a : List (List ℕ)} → refusal f ≡ 0 → slab ≡ slab_of f → AllAlphas f a → both ≡ true → InTable f t slab a kind index
  named_in_table accepted shared known q = table_named accepted shared (named_writable q known)

pub loads_there : (f : List ℕ) → Listed f 3 0
unfolding count_of
loads_there f = record { there = omega arith }

-- ---- what is written: a record, where both verdicts are clear, or as by a change of the loads, the whole

part_listed : (f : List ℕ) (both : Bool) {kind index k i : ℕ} → Listed f kind index → k ≡ cond both kind 3 → i ≡ cond both index 0 → Listed f k i
part_listed f true h ek ei = rw (ek, ei) h
part_listed f false h ek ei = rw (ek, ei) (loads_there f)

pub settling_part : (f t g : List ℕ) (both : Bool) {kind index k i : ℕ} → Settling f t g kind index → k ≡ cond both kind 3 → i ≡ cond both index 0 → Settling f t g k i
settling_part f t g both h ek ei = record { accepted = h.accepted; table = h.table; governing = h.governing; listed = part_listed f both h.listed ek ei }

pub rewritten_by : (f t : List ℕ) (before stands : Bool) (kind index : ℕ) {k i : ℕ} {u : List ℕ} → stands ≡ is_clear f → k ≡ cond (before && stands) kind 3
    → i ≡ cond (before && stands) index 0 → u ≡ cond stands (named_written f k i t) (blanked (record_count f) t) → u ≡ rewritten before f kind index t
unfolding rewritten
rewritten_by f t true true kind index ec ek ei eu = rw (← ec, ← ek, ← ei) eu
rewritten_by f t false true kind index ec ek ei eu = eu ∙ rw (ek, ei) (all_named f t (eqb-true (verdict f) 0 (sym ec)))
rewritten_by f t true false kind index ec ek ei eu = rw (← ec) (eu ∙ all_blank f t (eqb-false (verdict f) 0 (sym ec)))
rewritten_by f t false false kind index ec ek ei eu = eu ∙ all_blank f t (eqb-false (verdict f) 0 (sym ec))

-- ---- opening

module _ (f : List ℕ) (l : Lent) where
  pub opened_refused : (r : Refusal) → number r ≡ open_refusal f l → Opened f l (verdict_answer (Err r)) l
  opened_refused r e = record { answer = rw (← e, ne_eqb (number r) 0 (not_zero r)); lent = rw (← e, ne_eqb (number r) 0 (not_zero r)) }

  -- all records of an accepted floor are settled as by a change of its loads
  pub opened_settling : 0 ≡ open_refusal f l → Settling f l.table l.governing 3 0
  opened_settling e =
      let h = open_parts f l (sym e) in
      record { accepted = h.0; table = record { room = h.1.table }; governing = record { room = h.1.governing }; listed = loads_there f }

  pub opened_filled : {v : ℕ} {l' : Lent} → 0 ≡ open_refusal f l → v ≡ verdict f → l' ≡ afresh f l → Opened f l (verdict_answer (Ok v)) l'
  opened_filled e ev el = record { answer = rw (← e) (ap (answer 0) ev); lent = rw (← e) el }

-- ---- a change

module _ (f c : List ℕ) (l : Lent) where
  pub changed_refused : (r : Refusal) → number r ≡ change_number f l c → Changed f l c (verdict_answer (Err r)) f l
  changed_refused r e =
      let z = ne_eqb (number r) 0 (not_zero r) in record { answer = rw (← e, z); floor = rw (← e, z); lent = rw (← e, z) }

  module _ (e : 0 ≡ change_number f l c) where
    pub changed_takes : TakenChange f c
    changed_takes = taken_of f c l (sym e)

    -- the record that a taken change was put into is there
    pub changed_settling : {g : List ℕ} {kind index : ℕ} → g ≡ changed f c → kind ≡ change_kind c → index ≡ change_index c
        → Settling g l.table l.governing kind index
    changed_settling eg ek ei =
        let q = changed_takes in
        record {
          accepted = rw eg q.left;
          table = record { room = rw eg (lodged_changed f c l (sym e)).table };
          governing = record { room = rw eg (lodged_changed f c l (sym e)).governing };
          listed = record { there = rw (eg, ek, ei, many_kept f c q.held q.fits (change_kind c)) q.fits.index };
        }

    pub changed_taken : {g : List ℕ} {l' : Lent} {v : ℕ} → g ≡ changed f c → v ≡ verdict g → l' ≡ remade f c l
        → Changed f l c (verdict_answer (Ok v)) g l'
    changed_taken eg ev el = record { answer = rw (← e) (ap (answer 0) (ev ∙ rw eg)); floor = rw (← e) eg; lent = rw (← e) el }

-- what is lent, remade by what was read of floor and change
pub remade_by : (f c : List ℕ) (l : Lent) {g : List ℕ} {l' : Lent} {before kind index : ℕ} → before ≡ verdict f → g ≡ changed f c
    → kind ≡ change_kind c → index ≡ change_index c → l' ≡ remade_of (eqb before 0) g kind index l → l' ≡ remade f c l
remade_by f c l eb eg ek ei el = el ∙ rw (eb, eg, ek, ei)

-- ---- the governing negatives

-- the supports beside what a change of the loads names are all of them
pub all_governed : (b : Bays) (t g : List ℕ) → ((d : Way) → 1 ≤ spans_of b d) → governed b (beside_at b 3 0) t g ≡ governed b every t g
unfolding governed
all_governed b t g some =
    same_written support_width (beside_at b 3 0) every (support_at b t) (support_at b t) 0 (support_count b) g (λ k _ h. all_beside b 0 some (omega arith)) (λ k _ h. refl)

pub governed_by : (b : Bays) (both : Bool) (t g : List ℕ) (kind index : ℕ) {k i : ℕ} {h : List ℕ} → ((d : Way) → 1 ≤ spans_of b d) → k ≡ cond both kind 3 → i ≡ cond both index 0
    → h ≡ governed b (beside_at b k i) t g → h ≡ governed b (cond both (beside_at b kind index) every) t g
governed_by b true t g kind index some ek ei eh = rw (← ek, ← ei) eh
governed_by b false t g kind index some ek ei eh = eh ∙ rw (ek, ei) (all_governed b t g some)

-- a table of an accepted floor, the slice beside it, and the record changed
there_along : (f : List ℕ) (kind index : ℕ) → index < many f kind → (d : Way) → kind ≡ span_kind d → index < spans_of (bays_of f) d
there_along f kind index h d e = rw (spans_are f d, ← span_count f d, ← e) h

pub supporting : (f t g : List ℕ) (kind index : ℕ) {slab : Slab} {u : List ℕ} → Settling f t g kind index → slab ≡ slab_of f → length u ≡ length t → Supporting slab.bays u g kind index
unfolding slab_of record_count
supporting f t g kind index {slab} {u} h e same =
    let sized = sized_of f e in
    record {
      bayed = bayed sized;
      some = rw e (some_spans f h.accepted);
      table = rw e (omega (arith, h.table.room, same));
      slice = rw e h.governing;
      index_most = omega (arith, h.listed.there, count_most (bays f X) (bays f Y) (record { x = bays_most f X; y = bays_most f Y }) kind);
      there = rw e (there_along f kind index h.listed.there);
    }

-- table and slice, each written in its turn
pub settled : (f t g : List ℕ) (before : Bool) (kind index : ℕ) {slab : Slab} {v : ℕ} {u h : List ℕ} → slab ≡ slab_of f → v ≡ verdict f
    → u ≡ rewritten before f kind index t → h ≡ governed slab.bays (cond (before && eqb v 0) (beside_at slab.bays kind index) every) u g
    → lent u h ≡ remade_of before f kind index (lent t g)
unfolding regoverned slab_of
settled f t g before kind index es ev eu eh = same_lent eu (eh ∙ rw (es, ev, eu))
