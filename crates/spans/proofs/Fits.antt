-- A record of a workable span has as many numbers as its place, and each fits 32 bits: Mo by its bound, a section's five by their total's.
-- Assumes nothing.
use mathlib.Core.Path.{◌≡◌, refl}
use native.Mathlib.Omega.{arith}
use lib.ListN.{length}
use Rattle.strips.specs.declared.strip.Strips.{Strips}
use Rattle.spans.specs.declared.view.View.{View}
use Rattle.tables.specs.Width.{record_width}
use Rattle.spans.specs.Record.{record_of}
use Rattle.spans.specs.Asked.{Workable}
use Rattle.spans.specs.Meaning.{Shared, In32, Each32}
use Rattle.spans.proofs.Worked.{worked}
use Rattle.spans.proofs.Whole.{sections}

pub width_is : (v : View) → length (record_of v) ≡ record_width
unfolding record_of
width_is v = refl

-- what follows a section's five numbers follows
five_fit : {s : Strips} {Rest : Type 0} → Shared s → Rest
    → In32 s.total × (In32 s.column × (In32 s.middle × (In32 s.beam × (In32 s.slab × Rest))))
five_fit h rest = (omega arith, (omega arith, (omega arith, (omega arith, (omega arith, rest)))))

pub each_fits : {v : View} → Workable v → Each32 (record_of v)
unfolding record_of
each_fits h =
    let s = sections h in (omega (arith, (worked h).moment), five_fit s.0 (five_fit s.1 (five_fit s.2 tt)))
