-- Each turn's bytes come to those of the records before it (lines_add), and its text follows theirs (grew_lines); a piece has some of the
-- records left and fits (Cuts). After a write that failed nothing is promised.
-- Assumes nothing.
use mathlib.Core.Path.{◌≡◌, refl}
use Prim.Native.Nat.{ℕ, ◌+◌, ◌*◌, ◌-◌, ◌≤◌, ◌<◌}
use native.Mathlib.Nat.{mul-le-mul_right}
use native.Mathlib.Omega.{arith}
use borrow.Author.Rules.{rules}
use Rattle.sheets.specs.Pieces.{piece}
use Rattle.sheets.proofs.Texts.{lines_add}
use Rattle.sheets.proofs.Cuts.{piece_some, piece_within, piece_fits, cut_off}
use Rattle.std.proofs.KnownBytes.{Appends-nil}
use Rattle.sheets.proofs.Growing.{grew_lines}
use Rattle.sheets.proofs.pieces.write_rows.Goals as goal

-- n records after `done`, as a piece has them
module _ {width count done n : ℕ} (some : 1 ≤ width) (more : done < count) (e : n ≡ piece width (count - done)) where
  few : done + n ≤ count
  few = omega (arith, piece_within width (count - done) n e some)

  held : (done + n) * width ≤ count * width
  held = mul-le-mul_right width few

pub loop-done-init : goal.loop-done-init
loop-done-init g c = (refl, omega arith, omega arith, Appends-nil _)

pub write_piece-requires : goal.write_piece-requires
write_piece-requires g c = record {
  some = search rules;
  held = omega (arith, held c.requires.some c.loop-done-test.true c.fitting-n.ensures, c.requires.held);
  fits = piece_fits _ _ _ c.fitting-n.ensures c.requires.some;
}

pub overflow_add-total : goal.overflow_add-total
overflow_add-total g c =
    omega (arith, held c.requires.some c.loop-done-test.true c.fitting-n.ensures, c.loop-done.invariant.1, (rw c.in-Ok.is at c.write_piece.ensures.printed.1), c.requires.held, c.requires.countable)

pub overflow_add-bytes : goal.overflow_add-bytes
overflow_add-bytes g c =
    omega (arith, held c.requires.some c.loop-done-test.true c.fitting-n.ensures, c.loop-done.invariant.1, (rw c.in-Err.is at c.write_piece.ensures.printed.1), c.requires.held, c.requires.countable)

pub returns-in-Err-clause-printed : goal.returns-in-Err-clause-printed
returns-in-Err-clause-printed g c =
    (cut_off refl, omega (arith, held c.requires.some c.loop-done-test.true c.fitting-n.ensures, c.loop-done.invariant.1, (rw c.in-Err.is at c.write_piece.ensures.printed.1)))

pub overflow_add-done : goal.overflow_add-done
overflow_add-done g c = omega (arith, few c.requires.some c.loop-done-test.true c.fitting-n.ensures, c.ranges.count)

pub loop-done-smaller : goal.loop-done-smaller
loop-done-smaller g c =
    let piece_is = c.fitting-n.ensures in
    omega (arith, few c.requires.some c.loop-done-test.true piece_is, piece_some _ _ _ piece_is c.requires.some c.requires.fits (omega (arith, c.loop-done-test.true)))

pub loop-done-preserved : goal.loop-done-preserved
loop-done-preserved g c = (
  lines_add c.args.width c.loop-done.done c.fitting-n.result c.args.table.now c.loop-done.invariant.0 ((rw c.in-Ok.is at c.write_piece.ensures.printed.0).all refl),
  omega (arith, c.loop-done.invariant.1, (rw c.in-Ok.is at c.write_piece.ensures.printed.1)),
  few c.requires.some c.loop-done-test.true c.fitting-n.ensures,
  grew_lines _ _ _ c.args.width c.loop-done.done c.fitting-n.result c.args.table.now c.loop-done.invariant.3 ((rw c.in-Ok.is at c.write_piece.ensures.taken) refl),
)

pub returns : goal.returns
returns g c =
    let done : c.loop-done.done ≡ c.args.count = omega (arith, c.loop-done.invariant.2) in
    record {
      printed = (record { all = λ _. rw done at c.loop-done.invariant.0 }, rw done at c.loop-done.invariant.1);
      taken = λ _. rw done at c.loop-done.invariant.3;
    }
