-- What a writer is known to hold after one text and then another, and what a reader has given after one read and then another.
-- Assumes nothing.
use mathlib.Core.List.{List, ◌++◌}
use mathlib.Core.Path.{◌≡◌, sym, ap, subst, ◌∙◌}
use Prim.Native.Nat.{ℕ, ◌+◌, ◌*◌, ◌≤◌}
use borrow.Rule.Slice.PartMut.{put_mid}
use lib.ListN.{length, take, drop}
use lib.Seq.{take-append-add, take-append-le, length-take-le}
use Rattle.std.specs.declared.option.Option.{Option}
use Rattle.std.specs.Io.KnownBytes.{Appends, Consumes}
use Rattle.std.proofs.KnownBytes.{Appends-trans, Consumes-trans}
use Rattle.sheets.specs.Text.{lines}
use Rattle.sheets.proofs.Texts.{lines_then}

-- the same text by another name
pub grew_as : (a b : Option (List ℕ)) {xs ys : List ℕ} → xs ≡ ys → Appends a b xs → Appends a b ys
grew_as a b e h = subst (λ (l : List ℕ). Appends a b l) e h

-- m records, and n more
pub grew_lines : (a b c : Option (List ℕ)) (w m n : ℕ) (t : List ℕ) → Appends a b (lines w m t) → Appends b c (lines w n (drop (m * w) t)) → Appends a c (lines w (m + n) t)
grew_lines a b c w m n t h q = grew_as a c (sym (lines_then w m n t)) (Appends-trans a b c (lines w m t) (lines w n (drop (m * w) t)) h q)

-- the first n bytes of a part from `at` on, behind those before it
put_then : (xs ys : List ℕ) (at k n : ℕ) → at ≤ length xs → n ≤ length ys → take (at + n) (put_mid at k xs ys) ≡ take at xs ++ take n ys
put_then xs ys at k n h few =
    let size : length (take at xs) ≡ at = length-take-le at xs h in
    ap (λ (m : ℕ). take (m + n) (put_mid at k xs ys)) (sym size)
    ∙ take-append-add (take at xs) (ys ++ drop k (drop at xs)) n
    ∙ ap (λ (l : List ℕ). take at xs ++ l) (take-append-le n ys (drop k (drop at xs)) few)

-- n bytes read behind those that came before
pub read_then : (a b c : Option (List ℕ)) (xs ys : List ℕ) (at k n : ℕ) → at ≤ length xs → n ≤ length ys → Consumes a b (take at xs) → Consumes b c (take n ys)
    → Consumes a c (take (at + n) (put_mid at k xs ys))
read_then a b c xs ys at k n h few p q =
    subst (λ (l : List ℕ). Consumes a c l) (sym (put_then xs ys at k n h few)) (Consumes-trans a b c (take at xs) (take n ys) p q)
