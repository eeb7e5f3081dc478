-- Each turn's bytes come to those of the records before it (lines_add); a piece has some of the records left and fits (Cuts). After a write
-- that failed nothing is promised.
-- Assumes nothing.
use mathlib.Core.Path.{◌≡◌}
use Prim.Native.Nat.{◌*◌, ◌-◌, ◌≤◌}
use lib.ListN.{length}
use Rattle.std.specs.Io.KnownBytes.{Appends}
use Rattle.sheets.specs.Text.{lines}
use Rattle.sheets.proofs.pieces.write_rows.Given as goal

abbrev pub invariant-loop-done : goal.invariant-loop-done
invariant-loop-done g l =
    (l.total ≡ length (lines l.width l.done l.table)) × (l.total ≤ 11 * (l.done * l.width)) × (l.done ≤ l.count)
    × Appends (g.W.Write.contents l.fn.out) (g.W.Write.contents l.out) (lines l.width l.done l.table)

abbrev pub decreases-loop-done : goal.decreases-loop-done
decreases-loop-done g l = l.count - l.done
