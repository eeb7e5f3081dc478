-- What the program asks of the slices that it shows: no more numbers than its buffers hold.
-- Assumes nothing.
use Rattle.std.specs.Prelude.{ℕ, ◌*◌, ◌≤◌, List, length}
use Rattle.tables.specs.Width.{record_width}
use Rattle.supports.specs.Governing.{support_width}

pub record Shown (t g : List ℕ) : Type 0 where
  pub table : length t ≤ 320 * record_width
  pub governing : length g ≤ 346 * support_width

pub record Listable (t : List ℕ) : Type 0 where
  pub places : length t ≤ 3212
