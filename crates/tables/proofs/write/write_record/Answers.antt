-- The values are as many as a record is wide, and stand where the records before it end.
-- Assumes nothing.
use mathlib.Core.Path.{◌≡◌}
use borrow.Author.Rules.{rules}
use lib.ListN.{length}
use Rattle.numbers.specs.Records.{put}
use Rattle.tables.proofs.write.write_record.Goals as goal

pub returns : goal.returns
unfolding put
returns g c = let e : length c.args.values ≡ g.row.W = search rules in rw e at c.write_at.ensures
