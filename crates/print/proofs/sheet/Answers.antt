-- The first line ends within its buffer; with the records that follow it is the whole text (Sheets).
-- Assumes nothing.
use Rattle.std.proofs.Common.{refl, true}
use Prim.Native.Nat.{zero-le}
use Rattle.sheets.proofs.Writing.{wrote_there}
use Rattle.sheets.proofs.Cuts.{sent_there}
use Rattle.sheets.proofs.Growing.{grew_as}
use Rattle.print.proofs.Sheets.{whole, whole_text}
use Rattle.print.proofs.sheet.Goals as goal

pub returns-clause-printed : goal.returns-clause-printed
returns-clause-printed g c =
    let start = c.begin-start.ensures in
    whole start ((sent_there start.first c.in_ok-first.ensures.printed.0).all (refl {a = true})) (c.in_ok-rest.ensures.printed.0.all (refl {a = true}))

pub returns-clause-taken : goal.returns-clause-taken
returns-clause-taken g c =
    let start = c.begin-start.ensures in
    whole_text start _ _ _ (grew_as _ _ (wrote_there zero-le start.first) (c.in_ok-first.ensures.taken refl)) (c.in_ok-rest.ensures.taken refl)
