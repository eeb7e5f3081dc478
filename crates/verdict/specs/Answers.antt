-- "A panel query names an x bay and a y bay, each from 0, and answers that panel's least thickness; it tries 1 to 7, then 10."
-- That `panel_of` is the answer that `PanelAnswer` describes, and the only one, is proved in proofs/Answers.
-- Assumes nothing.
use Rattle.std.specs.Prelude.{ℕ, ◌<◌, Bool, cond, ◌&&◌, List, [], ◌∷◌, ◌++◌, ◌≡◌, ltb, eqb}
use Rattle.numbers.specs.Chains.{Chain, tried, GivenBy}
use Rattle.numbers.specs.Chains.Check.{◌unless◌says◌}
use Rattle.numbers.specs.Least.{Least}
use Rattle.floor.specs.Refusal.{floor_checks}
use Rattle.plan.specs.declared.ways.Way.TheVariants.{X, Y}
use Rattle.plan.specs.Plan.{bays}
use Rattle.lines.specs.Lines.{panel_thickness}
use Rattle.lines.specs.Meaning.{PanelEnough}
use Rattle.answers.specs.declared.Answer.{Answer}
use Rattle.answers.specs.Answers.{answer}

-- the floor has such a panel
unfoldable pub has_panel : List ℕ → ℕ → ℕ → Bool
has_panel f x y = ltb x (bays f X) && ltb y (bays f Y)

abbrev pub HasPanel : List ℕ → ℕ → ℕ → Type 0
HasPanel f x y = (x < bays f X) × (y < bays f Y)

-- 10 "no such panel"
unfoldable pub panel_checks : List ℕ → ℕ → ℕ → Chain
panel_checks f x y = floor_checks f ++ (10 unless has_panel f x y says HasPanel f x y ∷ [])

unfoldable pub panel_refusal : List ℕ → ℕ → ℕ → ℕ
panel_refusal f x y = tried (panel_checks f x y)

-- "refused queries answer 0 mm"
unfoldable pub panel_of : List ℕ → ℕ → ℕ → Answer
panel_of f x y = cond (eqb (panel_refusal f x y) 0) (answer 0 (panel_thickness f x y)) (answer (panel_refusal f x y) 0)

pub record PanelAnswer (f : List ℕ) (x y : ℕ) (a : Answer) : Type 0 where
  pub given : GivenBy (panel_checks f x y) a.refusal
  pub refused : ¬ (a.refusal ≡ 0) → a.value ≡ 0
  pub least : a.refusal ≡ 0 → Least (PanelEnough f x y) a.value
