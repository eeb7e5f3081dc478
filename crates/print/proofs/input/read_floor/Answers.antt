-- Each read's bytes are behind those that stand for what came before (Reading); a read that gives none, and does not fail, is at the end.
-- Assumes nothing.
use Prim.Native.Nat.{zero-le}
use mathlib.Core.Bool.{true, false}
use mathlib.Core.Path.{◌≡◌, refl, sym, ap, ◌∙◌}
use native.Mathlib.Omega.{arith}
use borrow.Author.Tests.{eqb-true}
use Rattle.std.specs.Prelude.{eqb}
use Rattle.print.specs.declared.input.Input.{Input}
use Rattle.print.proofs.Reading.{nothing, one_more, all_of}
use Rattle.print.proofs.input.read_floor.Goals as goal

pub loop-init : goal.loop-init
loop-init g c = (zero-le, refl, nothing _ _)

pub returns-then-read-clause-stands : goal.returns-then-read-clause-stands
returns-then-read-clause-stands g c = λ ok.
    let bytes = ap (λ (i : Input). i.bytes) c.after-read.ensures.0 in
    let none : eqb c.read_on.result.bytes 0 ≡ true = sym (ap (λ (i : Input). i.ended) c.after-read.ensures.0) ∙ c.if-read.true in
    let safe : c.read_on.result.failed ≡ false = sym (ap (λ (i : Input). i.failed) c.after-read.ensures.0) ∙ ok in
    all_of _ _ _ _
    (one_more _ _ _ c.loop.bytes _ c.loop.n c.read_on.result.bytes _ bytes c.loop.invariant.2 c.read_on.ensures.put c.read_on.ensures.read)
    (c.read_on.ensures.end (omega (arith, c.loop.invariant.0, c.loop.invariant.1, c.requires.size)) safe (eqb-true _ _ none))

pub loop-preserved : goal.loop-preserved
loop-preserved g c =
    let bytes = ap (λ (i : Input). i.bytes) c.after-read.ensures.0 in (
      c.after-read.ensures.1,
      c.read_on.ensures.put.same_length ∙ c.loop.invariant.1,
      one_more _ _ _ c.loop.bytes _ c.loop.n c.read_on.result.bytes _ bytes c.loop.invariant.2 c.read_on.ensures.put c.read_on.ensures.read,
    )
