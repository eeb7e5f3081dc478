-- Demand 3: "Start from an accepted floor whose table was filled by the program and make any run of changes, refused ones among them, with
-- nobody else writing to either." What a run of calls is, and what is left of it.
-- Assumes nothing.
use Rattle.std.specs.Prelude.{ℕ, cond, List, [], ◌∷◌, ◌≡◌, eqb}
use Rattle.answers.specs.declared.Answer.{Answer}
use Rattle.answers.specs.Answers.{answered}
use Rattle.limits.specs.Limits.{verdict}
use Rattle.moments.specs.Lent.{Lent}
use Rattle.moments.specs.Tables.{afresh}
use Rattle.moments.specs.Changing.{change_number, floor_after, Changed}

-- changes one after another, each any bytes, each made to the floor and the buffers that the one before it left
pub data Morning : List ℕ → Lent → List (List ℕ) → List Answer → List ℕ → Lent → Type 0 where
  none : {f : List ℕ} {l : Lent} → Morning f l [] [] f l
  then : {f c f₁ f₂ : List ℕ} {l l₁ l₂ : Lent} {a : Answer} {cs : List (List ℕ)} {rs : List Answer}
      → Changed f l c a f₁ l₁ → Morning f₁ l₁ cs rs f₂ l₂ → Morning f l (c ∷ cs) (a ∷ rs) f₂ l₂

-- "the first one with each change not refused put in its place in turn", beside what was lent at the start: of what is lent only the length counts
-- for a refusal, and no call changes it
abbrev pub placed : List ℕ → Lent → List (List ℕ) → List ℕ
placed f l [] = f
placed f l (c ∷ cs) = placed (floor_after f l c) l cs

-- "each change not refused gave the verdict of the floor it made"; one that was refused its number, with 255
abbrev pub gave : List ℕ → Lent → List (List ℕ) → List Answer
gave f l [] = []
gave f l (c ∷ cs) = answered (change_number f l c) (verdict (floor_after f l c)) ∷ gave (floor_after f l c) l cs

-- the verdict that stands after a run of calls: that of the last call that was not refused, or v if all were
abbrev pub standing : ℕ → List Answer → ℕ
standing v [] = v
standing v (a ∷ rs) = standing (cond (eqb a.refusal 0) a.value v) rs

-- what a morning of changes cs, from floor f and what was lent, has answered and left: "the table equals that floor's table worked out afresh"
pub record Held (f : List ℕ) (l : Lent) (cs : List (List ℕ)) (rs : List Answer) (f' : List ℕ) (l' : Lent) : Type 0 where
  pub floor : f' ≡ placed f l cs
  pub lent : l' ≡ afresh (placed f l cs) l
  pub answers : rs ≡ gave f l cs
