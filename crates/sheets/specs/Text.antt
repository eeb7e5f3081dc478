-- Numbers as text, each computed from the numbers, so that a promise that cites one leaves no second text. 01: "prints refusal number,
-- a space, verdict; at verdict 0 then one line per record, sixteen numbers, spaces between". Here width and count are parameters.
-- Assumes nothing.
use Rattle.std.specs.Prelude.{cond, List, [], ◌∷◌, ◌++◌, ℕ, zero, suc, ◌*◌, ◌/◌, ltb, take, drop}
use Rattle.io.specs.Digits.{last_digits}

-- how many decimal digits n has, where they are at most one more than the fuel
abbrev pub places : ℕ → ℕ → ℕ
places zero n = 1
places (suc fuel) n = cond (ltb n 10) 1 (suc (places fuel (n / 10)))

-- the fewest decimal digits of n in ASCII, the most significant first; a number below 10 ^ 20 has at most twenty
unfoldable pub decimal : ℕ → List ℕ
decimal n = last_digits 10 (places 19 n) n

-- each number with a space before it
abbrev pub further : List ℕ → List ℕ
further [] = []
further (n ∷ ns) = 32 ∷ (decimal n ++ further ns)

-- the numbers with one space between
abbrev pub spaced : List ℕ → List ℕ
spaced [] = []
spaced (n ∷ ns) = decimal n ++ further ns

-- the numbers with one space between, and a newline
abbrev pub line : List ℕ → List ℕ
line ns = spaced ns ++ (10 ∷ [])

-- a line for each of the first n records of w numbers of t, in order
abbrev pub lines : ℕ → ℕ → List ℕ → List ℕ
lines w zero t = []
lines w (suc n) t = lines w n t ++ line (take w (drop (n * w) t))
