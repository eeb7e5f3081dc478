-- The lesser of the two, by the definition's own test (piece_is).
-- Assumes nothing.
use Rattle.std.proofs.Common.{rules}
use Rattle.sheets.proofs.Cuts.{piece_is}
use Rattle.sheets.proofs.pieces.fitting.Goals as goal

pub returns : goal.returns
returns c = rw (← piece_is c.args.width c.args.left) (search rules)
