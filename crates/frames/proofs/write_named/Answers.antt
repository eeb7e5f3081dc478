-- The x frames, then the y frames, which start where those end.
-- Assumes nothing.
use mathlib.Core.Path.{refl}
use borrow.Author.Rules.{rules}
use Rattle.plan.specs.declared.ways.Way.TheVariants.{X, Y}
use Rattle.plan.specs.Plan.{bays, last_line}
use Rattle.tables.specs.Places.{record_count}
use Rattle.tables.proofs.Runs.{both_ways}
use Rattle.frames.specs.Table.{named_written}
use Rattle.frames.proofs.Frames.{in_table, in_frames}
use Rattle.frames.proofs.write_named.Goals as goal

pub returns : goal.returns
unfolding named_written record_count
returns c =
    let f = c.args.floor.bytes.now in
    both_ways (bays f) (last_line f) _ _ _ _ c.write_lines.ensures c.write_lines-2.ensures

pub write_lines-requires : goal.write_lines-requires
write_lines-requires c = in_frames _ _ _ _ (in_table c.args.floor.accepted c.args.floor.shared c.requires) X _ refl

pub write_lines-requires-2 : goal.write_lines-requires-2
write_lines-requires-2 c = in_frames _ _ _ _ (in_table c.args.floor.accepted c.args.floor.shared c.requires) Y _ (search rules)
