-- The end-span table, row by row: each of its rules is one test of the five rows, which antt computes.
--     row_in         the row picked is one of the five, and the unrestrained one exactly where the side's code is 1
--     end_most, percent_most, inner_most    no percentage exceeds 75
--     end_balance    "Negatives plus twice the positive make 200·Mo, but 201·Mo in an unrestrained end span"
-- Assumes nothing.
use mathlib.Core.Bool.{Bool, true, false, cond}
use mathlib.Core.Path.{◌≡◌, refl, ap}
use Prim.Native.Nat.{ℕ, ◌+◌, ◌*◌, ◌≤◌, ◌<◌}
use native.Mathlib.Omega.{arith}
use lib.Dec.{eqb, leb, lit<, lit≤}
use borrow.Author.Tests.{eqb-true, leb-true}
use Rattle.numbers.specs.Tests.{until, all}
use Rattle.numbers.proofs.Tests.{at}
use Rattle.layouts.specs.declared.Layout.{Layout}
use Rattle.layouts.specs.declared.Layout.TheVariants.{Everywhere, OuterOnly, Bare}
use Rattle.strips.specs.declared.endspan.SpanPlace.{SpanPlace}
use Rattle.strips.specs.declared.endspan.SpanPlace.TheVariants.{OuterEnd, Between, InnerEnd}
use Rattle.strips.specs.EndTable.{inner_percent, table_at, layout_row, end_row, end_percent, balance}

pub row_in : (code : ℕ) (layout : Layout) → (end_row code layout < 5) × (eqb (end_row code layout) 0 ≡ eqb code 1)
unfolding end_row
row_in code layout = told (eqb code 1) (eqb code 2) layout
  where
    told :
        (a b : Bool) (layout : Layout)
        → (cond a 0 (cond b 4 (layout_row layout)) < 5) × (eqb (cond a 0 (cond b 4 (layout_row layout))) 0 ≡ a)
    told true b layout = (lit< tt, refl)
    told false true layout = (lit< tt, refl)
    told false false Everywhere = (lit< tt, refl)
    told false false Bare = (lit< tt, refl)
    told false false OuterOnly = (lit< tt, refl)

pub end_most : (row column : ℕ) → row < 5 → column < 3 → table_at row column ≤ 75
unfolding until
end_most row column r c =
    leb-true _ 75 (at 3 column (λ j. leb (table_at row j) 75) (at 5 row (λ i. all 3 (λ j. leb (table_at i j) 75)) refl r) c)

pub percent_most : (code : ℕ) (layout : Layout) (place : SpanPlace) → end_percent code layout place ≤ 75
unfolding end_percent
percent_most code layout OuterEnd = end_most _ 0 (row_in code layout).0 (lit< tt)
percent_most code layout Between = end_most _ 1 (row_in code layout).0 (lit< tt)
percent_most code layout InnerEnd = end_most _ 2 (row_in code layout).0 (lit< tt)

pub inner_most : (place : SpanPlace) → inner_percent place ≤ 75
inner_most OuterEnd = lit≤ tt
inner_most Between = lit≤ tt
inner_most InnerEnd = lit≤ tt

abbrev row_sum : ℕ → ℕ
row_sum row = table_at row 0 + table_at row 2 + 2 * table_at row 1

row_balance : (row : ℕ) → row < 5 → row_sum row ≡ cond (eqb row 0) 201 200
unfolding until
row_balance row r = eqb-true (row_sum row) _ (at 5 row (λ i. eqb (row_sum i) (cond (eqb i 0) 201 200)) refl r)

pub end_balance : (code : ℕ) (layout : Layout) (Mo : ℕ) → balance (end_percent code layout) Mo ≡ cond (eqb code 1) 201 200 * Mo
unfolding end_percent
end_balance code layout Mo =
    rw (← (row_in code layout).1) (omega (arith, ap (λ n. n * Mo) (row_balance (end_row code layout) (row_in code layout).0)))

pub inner_balance : (Mo : ℕ) → balance inner_percent Mo ≡ 200 * Mo
inner_balance Mo = omega arith
