-- The records named, or all of them zeros (Ways).
-- Assumes nothing.
use Rattle.lines.proofs.Slabs.{sized_of}
use Rattle.tables.proofs.Numbered.{bayed, counted}
use Rattle.moments.proofs.Ways.{writable}
use Rattle.moments.proofs.rewrite.Goals as goal

pub write_named-requires : goal.write_named-requires
write_named-requires c = writable _ _ c.requires.judging c.if-stands.true c.args.lines.now.stiff c.requires.listed

pub record_count-requires : goal.record_count-requires
record_count-requires c = bayed (sized_of _ c.args.lines.now.survey.floor.shared)

pub blank-requires : goal.blank-requires
blank-requires c = rw (counted (sized_of _ c.args.lines.now.survey.floor.shared) c.record_count.ensures.0) c.requires.judging.table

pub returns-then-stands : goal.returns-then-stands
returns-then-stands c = rw c.if-stands.true c.write_named.ensures

pub returns-else-stands : goal.returns-else-stands
returns-else-stands c = rw (c.if-stands.false, ← counted (sized_of _ c.args.lines.now.survey.floor.shared) c.record_count.ensures.0) c.blank.ensures
