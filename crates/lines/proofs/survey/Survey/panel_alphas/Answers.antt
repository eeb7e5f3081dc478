-- A row for each direction, of the two lines beside the panel.
-- Assumes nothing.
use native.Mathlib.Omega.{arith}
use Rattle.lines.proofs.Slabs.{panel_few}
use Rattle.lines.proofs.Filled.{panel_rows}
use Rattle.lines.proofs.survey.Survey.panel_alphas.Goals as goal

pub overflow_add-j : goal.overflow_add-j
overflow_add-j c = omega (arith, (panel_few c.requires).1)

pub overflow_add-i : goal.overflow_add-i
overflow_add-i c = omega (arith, (panel_few c.requires).0)

pub returns : goal.returns
returns c = panel_rows c.fill_along.ensures c.fill_along-2.ensures
