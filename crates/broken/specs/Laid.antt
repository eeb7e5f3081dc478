-- Places put into a slice one by one, as the walk does it: counted in any case, and written where there is room.
-- That a slice with room for all of them has them at its start afterwards is proved in proofs/Laid.
-- Assumes nothing.
use Rattle.std.specs.Prelude.{ℕ, ◌+◌, ◌*◌, cond, List, [], ◌∷◌, ◌≡◌, leb, length}
use Rattle.numbers.specs.Records.{put}
use Rattle.broken.specs.declared.Place.{Place}
use Rattle.broken.specs.Numbers.{place_width, four_of}

-- p as place n
unfoldable pub noted : ℕ → Place → List ℕ → List ℕ
noted n p t = cond (leb (n * place_width + place_width) (length t)) (put place_width n (four_of p) t) t

-- places from place n on
unfoldable pub laid : ℕ → List Place → List ℕ → List ℕ
laid n [] t = t
laid n (p ∷ ps) t = laid (n + 1) ps (noted n p t)

-- with these places after n others there are m, and slice t has become u
pub record Listed (n : ℕ) (ps : List Place) (t : List ℕ) (m : ℕ) (u : List ℕ) : Type 0 where
  pub count : m ≡ n + length ps
  pub slice : u ≡ laid n ps t
