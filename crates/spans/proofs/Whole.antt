-- At each section of a workable span the parts add up to the total, and the three sections balance.
-- A column strip is so many parts of its total, and no more than all of them: by part, a part of 10000 in its range, evenly, wc of W.
--     sections    the low end, between, the high end
--     at_low ..   what these ask: no percentage exceeds 75
--     balanced    their totals, by the cases of the outer end
-- Assumes nothing.
use Prim.Native.Nat.{ℕ, ◌≤◌}
use mathlib.Core.Bool.{Bool, true, false, cond, false≢true}
use mathlib.Core.Path.{◌≡◌, refl, sym, ◌∙◌}
use native.Mathlib.Nat.{le_trans}
use native.Mathlib.Omega.{arith}
use lib.Dec.{eqb, lit≤}
use borrow.Author.Rules.{rules}
use Rattle.numbers.proofs.Bounded.{◌⊗◌}
use Rattle.numbers.proofs.Rounded.{share≤}
use Rattle.layouts.specs.declared.Layout.{Layout}
use Rattle.strips.specs.declared.endspan.SpanPlace.TheVariants.{OuterEnd, Between, InnerEnd}
use Rattle.strips.specs.Asked.{Crossing, ShareRatios}
use Rattle.strips.specs.Strips.{part, split}
use Rattle.strips.proofs.EndTable.{percent_most, inner_most, end_balance, inner_balance}
use Rattle.strips.proofs.Ratios.{torsion_most}
use Rattle.strips.proofs.Parts.{part_in, outer_in}
use Rattle.strips.proofs.Strips.{beam≤, split_whole}
use Rattle.spans.specs.declared.view.EndView.{EndView}
use Rattle.spans.specs.declared.view.View.{View}
use Rattle.spans.specs.declared.work.SpanWork.{SpanWork}
use Rattle.spans.specs.Works.{span_work}
use Rattle.spans.specs.Asked.{Workable, Worked, AtEnd, AtSection}
use Rattle.spans.specs.declared.«record».Percents.{Percents}
use Rattle.spans.specs.Record.{percents_of, percents_in, outer_part, end_column, end_strips, between_strips}
use Rattle.spans.specs.Meaning.{Shared, OneOuter, Balanced}
use Rattle.spans.proofs.Worked.{worked}

either : (b : Bool) {x y most : ℕ} → x ≤ most → y ≤ most → cond b x y ≤ most
either true h k = h
either false h k = k

-- ---- no percentage exceeds 75

pub record Most75 (p : Percents) : Type 0 where
  pub low : p.low ≤ 75
  pub between : p.between ≤ 75
  pub high : p.high ≤ 75

pub percents_most : (layout : Layout) (low high : EndView) → Most75 (percents_of layout low high)
unfolding percents_of
percents_most layout low high =
    either_of low.outer
    (record {
      low = percent_most low.code layout OuterEnd;
      between = percent_most low.code layout Between;
      high = percent_most low.code layout InnerEnd;
    })
    (either_of high.outer
    (record {
      low = percent_most high.code layout InnerEnd;
      between = percent_most high.code layout Between;
      high = percent_most high.code layout OuterEnd;
    })
    (record { low = inner_most InnerEnd; between = inner_most Between; high = inner_most InnerEnd }))
  where
    either_of : (b : Bool) {x y : Percents} → Most75 x → Most75 y → Most75 (cond b x y)
    either_of true h k = h
    either_of false h k = k

-- ---- no column strip exceeds its total

shared : {total column A : ℕ} → total ≤ 1879200000 → column ≤ total → A ≤ 10000 → Shared (split total column A)
unfolding split
shared {total} {column} {A} t c a =
    record { whole = split_whole total column A c a; strip = omega (arith, beam≤ column A a); most = t }

module _ {w : SpanWork} (h : Worked w) where
  ratios : ShareRatios w.a w.r
  ratios = record { stiffness = h.stiffness; least = h.ratio_least; most = h.ratio_most }

  part_most : {base crossover : ℕ} → Crossing base crossover → part base crossover w.a w.r ≤ 10000
  part_most l = le_trans (part_in l ratios).1 (lit≤ tt)

  outer_most : (e : EndView) → outer_part w e ≤ 10000
  unfolding outer_part
  outer_most e = (outer_in (record { shared = ratios; torsion = torsion_most _ _ _ })).1

  end_column_lem : (e : EndView) (total : ℕ) → end_column w e total ≤ total
  end_column_lem e total =
      either e.outer (either (eqb e.code 2) (share≤ total _ h.strip) (share≤ total _ (outer_most e)))
      (share≤ total _ (part_most (search rules)))

  end_shared : (e : EndView) {percent : ℕ} → percent ≤ 75 → Shared (end_strips w e percent)
  unfolding end_strips
  end_shared e most = shared (most ⊗ h.moment) (end_column_lem e _) h.stiffness

  between_shared : {percent : ℕ} → percent ≤ 75 → Shared (between_strips w percent)
  unfolding between_strips
  between_shared most = shared (most ⊗ h.moment) (share≤ _ _ (part_most (search rules))) h.stiffness

pub sections : {v : View} → Workable v
    → Shared (end_strips (span_work v) v.low (percents_in v).low)
    × Shared (between_strips (span_work v) (percents_in v).between)
    × Shared (end_strips (span_work v) v.high (percents_in v).high)
sections {v} h =
    let w = worked h in
    let p = percents_most v.slab.layout v.low v.high in
    (end_shared w v.low p.low, between_shared w p.between, end_shared w v.high p.high)

-- what the three sections ask
module _ {v : View} (h : Workable v) where
  p75 : Most75 (percents_in v)
  p75 = percents_most v.slab.layout v.low v.high

  pub at_low : AtEnd (span_work v) v.low (percents_in v).low
  unfolding span_work
  at_low = record { span = worked h; beam = h.low; most = p75.low }

  pub at_between : AtSection (span_work v) (percents_in v).between
  at_between = record { span = worked h; most = p75.between }

  pub at_high : AtEnd (span_work v) v.high (percents_in v).high
  unfolding span_work
  at_high = record { span = worked h; beam = h.high; most = p75.high }

-- ---- the balance

pub balanced : (layout : Layout) (w : SpanWork) (low high : EndView) → OneOuter low high → Balanced layout w low high
unfolding percents_of
balanced layout w low high one = told low.outer high.outer refl refl
  where
    told : (a b : Bool) → low.outer ≡ a → high.outer ≡ b → Balanced layout w low high
    told true true el eh = absurd (false≢true (sym one ∙ rw (el, eh)))
    told true false el eh = rw (el, eh) (end_balance low.code layout w.moment)
    told false true el eh = rw (el, eh) (omega (arith, end_balance high.code layout w.moment))
    told false false el eh = rw (el, eh) (inner_balance w.moment)
