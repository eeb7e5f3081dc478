-- One more number makes a text longer by a space and its decimal; a line is its first number's decimal and the further numbers'.
-- Assumes nothing.
use mathlib.Core.Path.{◌≡◌, ap, ◌∙◌}
use mathlib.Core.List.{List, [], ◌∷◌, ◌++◌, append_assoc, append-nil}
use Prim.Native.Nat.{ℕ, zero, suc, ◌+◌, ◌-◌, ◌*◌, ◌≤◌, ◌<◌}
use native.Mathlib.Nat.{add-zero, add-suc, add-mul}
use native.Mathlib.Numerals.{add-one}
use native.Mathlib.Omega.{arith}
use lib.ListN.{length, take, drop, get_or, length-append}
use lib.Seq.{take_all, take-suc, drop-drop}
use Rattle.sheets.specs.Text.{decimal, further, line, lines}

further_end : (ns : List ℕ) (n : ℕ) → further (ns ++ (n ∷ [])) ≡ further ns ++ ((32 ∷ []) ++ decimal n)
further_end [] n = simp append-nil
further_end (m ∷ ns) n = simp (further_end ns n, append_assoc)

-- one more number
pub further_more : (ns : List ℕ) (i : ℕ) → i < length ns →
    further (take (i + 1) ns) ≡ further (take i ns) ++ ((32 ∷ []) ++ decimal (get_or ns i 0))
further_more ns i h =
    ap further (rw (add-one i) (take-suc ns i 0 h)) ∙ further_end (take i ns) (get_or ns i 0)

-- a line from its first number on
pub line_first : (ns : List ℕ) → 1 ≤ length ns → (decimal (get_or ns 0 0) ++ further (take (length ns - 1) (drop 1 ns))) ++ (10 ∷ []) ≡ line ns
line_first [] some = absurd (omega (arith, some))
line_first (n ∷ ns) some = ap (λ (l : List ℕ). (decimal n ++ further l) ++ (10 ∷ [])) (take_all (length (n ∷ ns) - 1) ns (omega arith))

-- one more record after k of them, the first of which starts at `start`
pub lines_more : (w k start from : ℕ) (t : List ℕ) → from ≡ start + k * w →
    lines w (k + 1) (drop start t) ≡ lines w k (drop start t) ++ line (take (from + w - from) (drop from t))
lines_more w k start from t e = let size : from + w - from ≡ w = omega arith in rw (size, add-one k, e, drop-drop)

-- a records, and b more
pub lines_then : (w a b : ℕ) (t : List ℕ) → lines w (a + b) t ≡ lines w a t ++ lines w b (drop (a * w) t)
lines_then w a zero t = simp (add-zero, append-nil)
lines_then w a (suc b) t = simp (add-suc, lines_then w a b t, append_assoc, add-mul, drop-drop)

-- and the bytes of both
pub lines_add : (w a b : ℕ) (t : List ℕ) {x y : ℕ} → x ≡ length (lines w a t) → y ≡ length (lines w b (drop (a * w) t)) → x + y ≡ length (lines w (a + b) t)
lines_add w a b t e q = omega (arith, e, q, ap length (lines_then w a b t), length-append (lines w a t) (lines w b (drop (a * w) t)))
