-- The floor's lines are worked out, the verdict from them, what is to be written by whether it is clear, and then table and slice (Ways).
-- Assumes nothing.
use mathlib.Core.Bool.{◌&&◌}
use mathlib.Core.Path.{◌≡◌, ap, ◌∙◌}
use Prim.Native.Nat.{ℕ}
use mathlib.Core.List.{List}
use lib.Dec.{eqb}
use borrow.Author.Rules.{rules}
use Rattle.limits.specs.Limits.{verdict}
use Rattle.lines.specs.declared.survey.Lines.{Lines}
use Rattle.lines.specs.declared.survey.Survey.{Survey}
use Rattle.lines.specs.Slabs.{slab_of}
use Rattle.moments.proofs.Ways.{supporting, settling_part, rewritten_by, governed_by, settled}
use Rattle.moments.proofs.settle.Goals as goal

same : (l : Lines) {s : Survey} {f : List ℕ} → l.survey ≡ s → s.floor.bytes.now ≡ f → l.survey.floor.bytes.now ≡ f
same l e is = ap (λ (s : Survey). s.floor.bytes.now) e ∙ is

shared : (l : Lines) {f : List ℕ} → l.survey.floor.bytes.now ≡ f → l.survey.floor.slab ≡ slab_of f
shared l e = l.survey.floor.shared ∙ ap slab_of e

pub rewrite-requires : goal.rewrite-requires
rewrite-requires c =
    let p = settling_part _ _ _ (c.args.before && eqb c.broken-v.result 0) c.requires c.to_write-part.ensures.0 c.to_write-part.ensures.1 in
    rw (same c.of-lines.result c.of-lines.ensures c.of.ensures)
    (record { judging = record { table = p.table; verdict = ap (λ n. eqb n 0) (c.broken-v.ensures.0 ∙ ap verdict (same c.of-lines.result c.of-lines.ensures c.of.ensures)) }; listed = p.listed })

pub write_beside-requires : goal.write_beside-requires
write_beside-requires c =
    supporting _ _ _ _ _
    (settling_part _ _ _ (c.args.before && eqb c.broken-v.result 0) c.requires c.to_write-part.ensures.0 c.to_write-part.ensures.1)
    (shared c.of-lines.result (same c.of-lines.result c.of-lines.ensures c.of.ensures)) (search rules)

pub returns : goal.returns
returns c =
    let is = same c.of-lines.result c.of-lines.ensures c.of.ensures in
    let v = c.broken-v.ensures.0 ∙ ap verdict is in
    let at_hand = shared c.of-lines.result is in
    let kind = c.to_write-part.ensures.0 in
    let index = c.to_write-part.ensures.1 in
    let some = (supporting _ _ _ _ _ {u = c.rewrite.new.table} c.requires at_hand (search rules)).some in (
      v,
      settled _ _ _ _ _ _ at_hand v
          (rewritten_by _ _ c.args.before (eqb c.broken-v.result 0) _ _ (ap (λ n. eqb n 0) v) kind index (rw (← is) c.rewrite.ensures))
          (governed_by _ (c.args.before && eqb c.broken-v.result 0) _ _ _ _ some kind index c.write_beside.ensures),
    )
