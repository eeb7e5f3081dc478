-- "Records of 16 bytes, no header, little-endian: kind (2 bytes), index (2), then a, b, c (4 each, unsigned)."
-- A floor is its list of bytes. Fields are total: what is not there reads 0.
-- Assumes nothing.
use Rattle.std.specs.Prelude.{ℕ, ◌+◌, ◌*◌, List, get_or}

unfoldable pub le16 : List ℕ → ℕ → ℕ
le16 f at = get_or f at 0 + 256 * get_or f (at + 1) 0

unfoldable pub le32 : List ℕ → ℕ → ℕ
le32 f at =
    get_or f at 0 + 256 * get_or f (at + 1) 0 + 65536 * get_or f (at + 2) 0 + 16777216 * get_or f (at + 3) 0

-- the parts of a record after its kind and index, which 01 calls a, b, c
abbrev pub part_a : ℕ
part_a = 1

abbrev pub part_b : ℕ
part_b = 2

abbrev pub part_c : ℕ
part_c = 3

-- the fields of record q: its kind, its index, and its parts
abbrev pub kind_at : List ℕ → ℕ → ℕ
kind_at f q = le16 f (q * 16)

abbrev pub index_at : List ℕ → ℕ → ℕ
index_at f q = le16 f (q * 16 + 2)

abbrev pub part_at : List ℕ → ℕ → ℕ → ℕ
part_at f q part = le32 f (q * 16 + 4 * part)
