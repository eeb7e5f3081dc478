-- What leaves ask of their callers. A reader who only wants to know what the program does need not read this file.
-- Assumes nothing.
use Rattle.std.specs.Prelude.{ℕ, ◌+◌, ◌*◌, ◌≤◌, ◌<◌, List, ◌≡◌, length}
use Rattle.plan.specs.declared.read.Bays.{Bays}
use Rattle.plan.specs.declared.ways.Way.{Way}
use Rattle.plan.specs.Ways.{span_kind}
use Rattle.tables.specs.Width.{record_width}
use Rattle.tables.specs.Places.{records_of}
use Rattle.tables.specs.Asked.{Bayed}
use Rattle.supports.specs.Governing.{support_width, spans_of, last_of, support_count}

-- five numbers from here on
pub record Section (t : List ℕ) (at : ℕ) : Type 0 where
  pub room : at + 5 ≤ length t

-- support s of a line of n spans whose records, from `first` on, lie in the table
pub record OnFrame (t : List ℕ) (first n s : ℕ) : Type 0 where
  pub some : 1 ≤ n
  pub support : s ≤ n
  pub few : first + n ≤ 312
  pub records : (first + n) * record_width ≤ length t

-- room for n supports
pub record SupportRoom (n : ℕ) (g : List ℕ) : Type 0 where
  pub room : n * support_width ≤ length g

-- a table with the records of a floor with these bays, a slice with room for its supports, and a record that the floor has
pub record Supporting (b : Bays) (t g : List ℕ) (kind index : ℕ) : Type 0 where
  pub bayed : Bayed b
  pub some : (d : Way) → 1 ≤ spans_of b d
  pub table : records_of b * record_width ≤ length t
  pub slice : SupportRoom (support_count b) g
  pub index_most : index ≤ 168
  pub there : (d : Way) → kind ≡ span_kind d → index < spans_of b d

-- a line of them
pub record AtFrame (b : Bays) (t g : List ℕ) (kind index : ℕ) (d : Way) (l : ℕ) : Type 0 where
  pub all : Supporting b t g kind index
  pub line : l ≤ last_of b d

-- its supports `from` to `to`
pub record AtSupports (b : Bays) (t g : List ℕ) (d : Way) (l from to : ℕ) : Type 0 where
  pub bayed : Bayed b
  pub some : 1 ≤ spans_of b d
  pub table : records_of b * record_width ≤ length t
  pub slice : SupportRoom (support_count b) g
  pub line : l ≤ last_of b d
  pub order : from ≤ to
  pub last : to ≤ spans_of b d
