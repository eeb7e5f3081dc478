-- The parts one after the other (Printed).
-- Assumes nothing.
use Rattle.figures.proofs.Printed.{line_of, where_ok}
use Rattle.figures.proofs.compare.figure.Goals as goal

pub returns : goal.returns
returns g c =
    where_ok _
    (line_of _ _ _ _ _ _ c.args.number c.args.theirs c.args.ours c.compare-off.result c.is_within.result c.compare-off.ensures c.is_within.ensures
    c.in_ok-show_number.ensures c.in_ok-show_number-2.ensures c.in_ok-show_number-3.ensures c.in_ok-show_number-4.ensures)
    c.show_word.ensures
