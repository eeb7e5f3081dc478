-- By cases (Reinforced): no width, no area, no bars, or the bars of the area found.
-- Assumes nothing.
use mathlib.Core.Path.{refl}
use Rattle.bars.proofs.Chosen.{some_chosen, none_chosen}
use Rattle.steel.proofs.Reinforced.{found, missing, no_width, no_area, laid_is, reinforced}
use Rattle.steel.proofs.strip.reinforce.Goals as goal

pub returns-then-width-eq0 : goal.returns-then-width-eq0
returns-then-width-eq0 c = no_width _ c.if-width-eq0.true

pub returns-in_default : goal.returns-in_default
returns-in_default c = no_area _ c.if-width-eq0.false c.steel.ensures (missing c.in_default.is)

pub bars_for-requires : goal.bars_for-requires
bars_for-requires c = reinforced _ (found _ c.steel.ensures c.in-Ok.is) refl

pub returns-in-Some : goal.returns-in-Some
returns-in-Some c = laid_is _ c.if-width-eq0.false (found _ c.steel.ensures c.in-Ok.is) refl (some_chosen _ c.bars_for.ensures c.in-Some.is)

pub returns-in-None : goal.returns-in-None
returns-in-None c = laid_is _ c.if-width-eq0.false (found _ c.steel.ensures c.in-Ok.is) refl (none_chosen _ _ _ c.bars_for.ensures c.in-None.is)
