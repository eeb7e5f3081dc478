-- The table is filled as opening fills it, so that it has every record (Laid: own_moments).
-- Assumes nothing.
use lib.Dec.{lit≤}
use borrow.Author.Rules.{rules}
use Rattle.steel.proofs.Laid.{own_writable, own_moments}
use Rattle.steel.proofs.schedule.fill.Goals as goal

pub write_named-requires : goal.write_named-requires
write_named-requires c = let l = c.args.lines.now in let f = l.survey.floor in
    own_writable l.alphas f.accepted c.requires.clear l.stiff _ (lit≤ tt)

pub invariant_of-moments : goal.invariant_of-moments
invariant_of-moments c = let l = c.args.lines.now in let f = l.survey.floor in
    let own = own_moments l.alphas f.accepted c.requires.clear l.stiff _ (lit≤ tt) c.write_named.ensures (search rules) in
    record { clear = c.requires.clear; long = own.0; holds = own.1; shared = c.materials_of.ensures; counted = c.requires.counted }
