-- What stands for all that a reader gave so far.
-- Assumes nothing.
use Prim.Native.Nat.{ℕ, ◌+◌, ◌≤◌, min}
use mathlib.Core.Bool.{false}
use native.Mathlib.Omega.{arith}
use mathlib.Core.List.{List, [], ◌++◌, append-nil}
use mathlib.Core.Path.{◌≡◌, sym, ap, subst, ◌∙◌}
use lib.ListN.{take, drop}
use Rattle.std.specs.declared.option.Option.{Option}
use Rattle.std.specs.Prelude.{None, Some, IfSome, Result, Ok, Err, OnOk, eqb}
use Rattle.std.specs.Io.KnownBytes.{Appends, Consumes, IsAtEnd}
use Rattle.std.proofs.KnownBytes.{Consumes-nil, Consumes-trans}
use Rattle.sheets.proofs.Growing.{grew_as}
use Rattle.print.specs.Input.{stand_in, got_of, after_read, Stands, ReadOn}
use Rattle.print.specs.Sheet.{sheet_text, blank}
use Rattle.print.proofs.Kept.{stands_none, stands_more, same_sheet}

-- a reader gave bytes for which the first n of b stand
pub record SoFar (known left : Option (List ℕ)) (b : List ℕ) (n : ℕ) : Type 0 where
  pub given : List ℕ
  pub gave : Consumes known left given
  pub stand : Stands given b n

pub nothing : (a : Option (List ℕ)) (b : List ℕ) → SoFar a a b 0
nothing a b = record { given = []; gave = Consumes-nil a; stand = stands_none b }

-- one read more
pub one_more : (a left left' : Option (List ℕ)) (b b' : List ℕ) (n m n' : ℕ) → n' ≡ stand_in (n + m) → SoFar a left b n → ReadOn b n b' m → Consumes left left' (take m (drop n b'))
    → SoFar a left' b' n'
one_more a left left' b b' n m n' e s read gave = record {
  given = s.given ++ take m (drop n b');
  gave = Consumes-trans a left left' s.given (take m (drop n b')) s.gave gave;
  stand = subst (Stands (s.given ++ take m (drop n b')) b') (sym e) (stands_more s.stand read);
}

-- what is known after a read that went well and gave m bytes, of `most` that it was handed: the end is where it gave none
pub went_well : (E : Type 0) (n m most : ℕ) → m ≤ most
    → after_read n (got_of {E = E} (Ok m) most) ≡ record { bytes = stand_in (n + m); ended = eqb m 0; failed = false }
went_well E n m most h = let e : min m most ≡ m = omega arith in rw e

-- of a reader that is at its end, all that it had
pub all_of : (a left : Option (List ℕ)) (b : List ℕ) (n : ℕ) → SoFar a left b n → IsAtEnd left → IfSome a (λ f. Stands f b n)
all_of None left b n s e = tt
all_of (Some f) None b n s e = absurd s.gave
all_of (Some f) (Some rest) b n s e =
    subst (λ (l : List ℕ). Stands l b n) (sym (s.gave ∙ ap (λ (l : List ℕ). s.given ++ l) e ∙ append-nil s.given)) s.stand

-- the sheet of the bytes that stand for all of it is the sheet of all of it
pub same_text : (a x y : Option (List ℕ)) (b : List ℕ) (n : ℕ) → IfSome a (λ f. Stands f b n) → Appends x y (sheet_text (take n b) blank)
    → IfSome a (λ f. Appends x y (sheet_text f blank))
same_text None x y b n s h = tt
same_text (Some f) x y b n s h = grew_as x y (same_sheet s blank) h

-- of a sheet that was written where r went well
pub text_where_ok : {T E : Type 0} (r : Result T E) (a x y : Option (List ℕ)) (b : List ℕ) (n : ℕ) → IfSome a (λ f. Stands f b n) → OnOk r (Appends x y (sheet_text (take n b) blank))
    → OnOk r (IfSome a (λ f. Appends x y (sheet_text f blank)))
text_where_ok (Ok t) a x y b n s h = same_text a x y b n s h
text_where_ok (Err e) a x y b n s h = tt
