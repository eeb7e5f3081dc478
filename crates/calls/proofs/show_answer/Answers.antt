-- The text is as long as is answered.
-- Assumes nothing.
use Prim.Native.Nat.{zero-le}
use Rattle.sheets.proofs.Writing.{wrote_counts}
use Rattle.calls.proofs.show_answer.Goals as goal

pub slice_bounds-write_all-end : goal.slice_bounds-write_all-end
slice_bounds-write_all-end g c = (wrote_counts zero-le c.pair-n.ensures.0).1
