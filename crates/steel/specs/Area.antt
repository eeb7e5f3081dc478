-- "Slab steel": what is asked of a whole area As.
-- Assumes nothing.
use Rattle.std.specs.Prelude.{ℕ, ◌-◌, ◌*◌, ◌≤◌, cond, eqb, leb, pos, ◌-ℤ◌, ◌*ℤ◌, ◌≤ℤ◌}
use Rattle.steel.specs.declared.query.Query.{Query}
use Rattle.steel.specs.Query.{depth_of}

-- "K = 1190 up to fc 28, 910 from 56, between them 1470 − 10·fc"
unfoldable pub K : ℕ → ℕ
K fc = cond (leb fc 28) 1190 (cond (leb 56 fc) 910 (1470 - 10 * fc))

-- "1000·As ≥ 2·b·t for fy 280, else 1000·fy·As ≥ 756·b·t"
abbrev pub Minimum : Query → ℕ → Type 0
Minimum q As = cond (eqb q.fy 280) (2 * q.b * q.t ≤ 1000 * As) (756 * q.b * q.t ≤ 1000 * q.fy * As)

-- "224000·As·fy ≤ 51·K·fc·b·d (strain 0.005)"
abbrev pub Strain : Query → ℕ → Type 0
Strain q As = 224000 * As * q.fy ≤ 51 * K q.fc * q.fc * q.b * depth_of q

-- "Answer the least whole As with": an area fits a query
pub record Fits (q : Query) (As : ℕ) : Type 0 where
  -- "9·As·fy·(17·fc·b·d − 10·As·fy) ≥ 1700·fc·b·M", over the integers: what is in the brackets may be negative
  pub moment : pos (1700 * q.fc * q.b * q.m) ≤ℤ (pos (9 * As * q.fy) *ℤ (pos (17 * q.fc * q.b * depth_of q) -ℤ pos (10 * As * q.fy)))
  pub minimum : Minimum q As
  pub strain : Strain q As
