-- What is kept of the input has the sheet that all of it has (same_text).
-- Assumes nothing.
use Rattle.print.proofs.Reading.{text_where_ok}
use Rattle.print.proofs.print.Goals as goal

pub returns : goal.returns
returns g c = text_where_ok _ _ _ _ _ _ (c.read_floor-input.ensures.stands c.if-input.false) c.show.ensures
