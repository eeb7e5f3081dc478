-- Records of one width in a list, one after another.
-- Assumes nothing.
use Rattle.std.specs.Prelude.{ℕ, zero, suc, ◌+◌, ◌*◌, Bool, true, cond, List}
use Rattle.std.proofs.Math.Seq.{paste}

-- the list with record k, of w numbers, replaced by the first w numbers of v
unfoldable pub put : ℕ → ℕ → List ℕ → List ℕ → List ℕ
put w k v t = paste t (k * w) v w

-- of the n records from record a on, those that s picks are replaced, record k by g k; every other number is as it was
unfoldable pub written_from : ℕ → (ℕ → Bool) → (ℕ → List ℕ) → ℕ → ℕ → List ℕ → List ℕ
written_from w s g a zero t = t
written_from w s g a (suc n) t = cond (s (a + n)) (put w (a + n) (g (a + n)) (written_from w s g a n t)) (written_from w s g a n t)

-- the first n records
abbrev pub written : ℕ → (ℕ → Bool) → (ℕ → List ℕ) → ℕ → List ℕ → List ℕ
written w s g n t = written_from w s g 0 n t

abbrev pub every : ℕ → Bool
every k = true
