-- "Slab steel": what a query may hold, and the depth that it stands for.
-- Assumes nothing.
use Rattle.std.specs.Prelude.{ℕ, ◌-◌, ◌≤◌, Bool, cond, ◌&&◌, ◌||◌, ◌⊎◌, ◌≡◌, eqb, leb}
use Rattle.numbers.specs.Tests.{within}
use Rattle.records.specs.Ranges.{materials_ok}
use Rattle.records.specs.Meaning.{In, Materials}
use Rattle.steel.specs.declared.query.Query.{Query}

-- a query, by its numbers
abbrev pub query_of : ℕ → ℕ → ℕ → ℕ → ℕ → ℕ → Query
query_of M b t d fc fy = record { m = M; b = b; t = t; d = d; fc = fc; fy = fy }

-- "Query M 0..2,000,000,000 N·cm, b 1..12,000, t 90..500, d 50..t − 25 or 0, fc and fy as above"
pub record InRange (q : Query) : Type 0 where
  pub moment : q.m ≤ 2000000000
  pub width : In 1 12000 q.b
  pub thickness : In 90 500 q.t
  pub depth : In 50 (q.t - 25) q.d ⊎ (q.d ≡ 0)
  pub materials : Materials q.fc q.fy

-- 02, Six: "From now on 0 stands for t − 38, the second layer of document 002"
unfoldable pub depth_of : Query → ℕ
depth_of q = cond (eqb q.d 0) (q.t - 38) q.d

-- ---- the range as a test

unfoldable pub depth_listed : ℕ → ℕ → Bool
depth_listed d t = within 50 (t - 25) d || eqb d 0

unfoldable pub in_range : Query → Bool
in_range q =
    (leb q.m 2000000000 && within 1 12000 q.b)
    && ((within 90 500 q.t && depth_listed q.d q.t) && materials_ok q.fc q.fy)
