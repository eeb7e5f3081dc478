-- Each turn adds a space and a number's decimal to the text (further_more).
-- Assumes nothing.
use Rattle.std.proofs.Common.{◌+◌, ◌*◌, ◌≤◌, take}
use Rattle.sheets.specs.Text.{further}
use Rattle.sheets.specs.Wrote.{Wrote}
use Rattle.sheets.proofs.further.Given as goal

abbrev pub invariant-loop-n : goal.invariant-loop-n
invariant-loop-n l = Wrote l.initial.out l.at (further (take l.n-index l.numbers)) l.out l.end × (l.end ≤ l.at + 11 * l.n-index)
