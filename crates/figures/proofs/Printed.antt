-- The parts of a figure's line, one after the other, are the line.
-- Assumes nothing.
use Prim.Native.Nat.{ℕ}
use mathlib.Core.Bool.{Bool}
use mathlib.Core.List.{List, ◌++◌}
use mathlib.Core.Path.{◌≡◌, subst}
use Rattle.std.specs.declared.option.Option.{Option}
use Rattle.std.specs.Prelude.{Result, Ok, Err, OnOk}
use Rattle.std.specs.Io.KnownBytes.{Appends}
use Rattle.std.proofs.KnownBytes.{Appends-trans}
use Rattle.figures.specs.Comparison.{off_by, within}
use Rattle.figures.specs.Lines.{number_text, word_text, figure_line}

module _ (a b c d e f : Option (List ℕ)) (number theirs ours : ℕ) where
  -- what was written before the word, and the word
  pub line_of : (off : ℕ) (w : Bool) → off ≡ off_by theirs ours → w ≡ within off
      → Appends a b (number_text number) → Appends b c (number_text theirs) → Appends c d (number_text ours) → Appends d e (number_text off)
      → Appends e f (word_text w) → Appends a f (figure_line number theirs ours)
  unfolding figure_line
  line_of off w same says p q r s t =
      let last = subst (λ (x : Bool). Appends e f (word_text x)) says t in
      subst (λ (o : ℕ). Appends a f (number_text number ++ (number_text theirs ++ (number_text ours ++ (number_text o ++ word_text (within o)))))) same
      (Appends-trans a b f _ _ p (Appends-trans b c f _ _ q (Appends-trans c d f _ _ r (Appends-trans d e f _ _ s last))))

-- what holds where it went well
pub where_ok : {T E : Type 0} {P Q : Type 0} (r : Result T E) → (P → Q) → OnOk r P → OnOk r Q
where_ok (Ok x) k p = k p
where_ok (Err e) k p = tt
