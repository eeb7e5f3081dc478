-- Four bytes, stored where the numbers before it end.
-- Assumes nothing.
use mathlib.Core.Path.{◌∙◌}
use Rattle.numbers.specs.Records.{put}
use Rattle.changes.specs.Change.{stored}
use Rattle.bars.proofs.entry.write_number.Goals as goal

pub returns : goal.returns
unfolding put stored
returns c = c.store_at.ensures ∙ rw c.to_le_bytes.ensures
