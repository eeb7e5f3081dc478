-- Each turn adds a record's line to the text (lines_more).
-- Assumes nothing.
use Rattle.std.proofs.Common.{◌*◌, ◌≤◌, drop}
use Rattle.sheets.specs.Text.{lines}
use Rattle.sheets.specs.Wrote.{Wrote}
use Rattle.sheets.proofs.rows.Given as goal

abbrev pub invariant-loop-k : goal.invariant-loop-k
invariant-loop-k l = Wrote l.initial.out 0 (lines l.width l.k (drop (l.first * l.width) l.table)) l.out l.end × (l.end ≤ 11 * (l.k * l.width))
