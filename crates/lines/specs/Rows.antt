-- What is read or worked out once for all panels and spans of a floor: a row of numbers for each direction.
-- Assumes nothing.
use Rattle.std.specs.Prelude.{ℕ, ◌+◌, ◌≤◌, ◌<◌, Bool, List, [], ◌⊎◌, ◌≡◌, get_or, length}
use Rattle.plan.specs.declared.ways.Way.{Way}
use Rattle.plan.specs.declared.ways.Way.TheVariants.{X, Y}
use Rattle.plan.specs.Ways.{pick}
use Rattle.plan.specs.Plan.{span, last_line}
use Rattle.lines.specs.Lines.{line_alpha, weak_pair}

-- s has every span along d, and zeros past the last
pub record Spans (f : List ℕ) (d : Way) (s : List ℕ) : Type 0 where
  pub is : (k : ℕ) → k < 13 → get_or s k 0 ≡ span f d k

-- a has α of the lines `from` to `to` along d
pub record Alphas (f : List ℕ) (d : Way) (from to : ℕ) (a : List ℕ) : Type 0 where
  pub is : (l : ℕ) → from ≤ l → l ≤ to → get_or a l 0 ≡ line_alpha f d l
  pub most : (l : ℕ) → from ≤ l → l ≤ to → get_or a l 0 ≤ 200000000

-- a row for each direction
abbrev pub row_of : List (List ℕ) → Way → List ℕ
row_of rows d = get_or rows (pick d 0 1) []

-- what the type `[[u64; 13]; 2]` says of an array
pub record TwoRows (rows : List (List ℕ)) : Type 0 where
  pub two : length rows ≡ 2
  pub thirteen : (d : Way) → length (row_of rows d) ≡ 13

abbrev pub AllSpans : List ℕ → List (List ℕ) → Type 0
AllSpans f s = (d : Way) → Spans f d (row_of s d)

abbrev pub AllAlphas : List ℕ → List (List ℕ) → Type 0
AllAlphas f a = (d : Way) → Alphas f d 0 (last_line f d) (row_of a d)

-- α of the four lines around the panel of x bay i and y bay j
pub record PanelAlphas (f : List ℕ) (i j : ℕ) (a : List (List ℕ)) : Type 0 where
  pub x : Alphas f X j (j + 1) (row_of a X)
  pub y : Alphas f Y i (i + 1) (row_of a Y)

-- b has what a has at each of its thirteen places but `from` to `to`
abbrev pub SameElse : ℕ → ℕ → List ℕ → List ℕ → Type 0
SameElse from to a b = (k : ℕ) → k < 13 → (k < from) ⊎ (to < k) → get_or b k 0 ≡ get_or a k 0

-- a has 0 at each of its thirteen places but `from` to `to`
abbrev pub ZeroElse : ℕ → ℕ → List ℕ → Type 0
ZeroElse from to a = (k : ℕ) → k < 13 → (k < from) ⊎ (to < k) → get_or a k 0 ≡ 0

-- α of these lines and nothing else, so that there is one such array
pub record AlphaRows (f : List ℕ) (a : List (List ℕ)) : Type 0 where
  pub known : AllAlphas f a
  pub rest : (d : Way) → ZeroElse 0 (last_line f d) (row_of a d)

pub record PanelAlphaRows (f : List ℕ) (i j : ℕ) (a : List (List ℕ)) : Type 0 where
  pub rows : TwoRows a
  pub known : PanelAlphas f i j a
  pub rest_x : ZeroElse j (j + 1) (row_of a X)
  pub rest_y : ZeroElse i (i + 1) (row_of a Y)

-- the sum of two that stand one after the other
abbrev pub pair_at : List ℕ → ℕ → ℕ
pair_at a k = get_or a k 0 + get_or a (k + 1) 0

-- 02, Three: "an outer line with α below 8000" is one of the two beside bay k, of lines 0 to last
abbrev pub weak_at : ℕ → List ℕ → ℕ → Bool
weak_at last a = weak_pair last (λ l. get_or a l 0)
