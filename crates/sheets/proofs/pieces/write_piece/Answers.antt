-- The text is as long as is answered, so that part of the buffer is there to be sent, and is the text.
-- Assumes nothing.
use Prim.Native.Nat.{zero-le}
use native.Mathlib.Omega.{arith}
use Rattle.sheets.proofs.Writing.{wrote_counts, wrote_there}
use Rattle.sheets.proofs.Cuts.{sent_there}
use Rattle.sheets.proofs.Growing.{grew_as}
use Rattle.sheets.proofs.pieces.write_piece.Goals as goal

pub slice_bounds-send-end : goal.slice_bounds-send-end
slice_bounds-send-end g c = (wrote_counts zero-le c.rows-end.ensures.0).1

pub returns : goal.returns
returns g c = record {
  printed = (
    sent_there c.rows-end.ensures.0 c.send.ensures.printed.0,
    omega (arith, c.send.ensures.printed.1, (wrote_counts zero-le c.rows-end.ensures.0).1, c.rows-end.ensures.1),
  );
  taken = λ e. grew_as _ _ (wrote_there zero-le c.rows-end.ensures.0) (c.send.ensures.taken e);
}
