-- An outer support has its one face, an inner one the face that governs: one branch each.
-- Assumes nothing.
use Rattle.supports.proofs.Faces.{at_start, at_end, between}
use Rattle.supports.proofs.support.Goals as goal

pub returns-then-s-eq0 : goal.returns-then-s-eq0
returns-then-s-eq0 c = at_start _ _ _ _ c.if-s-eq0.true c.five_from.ensures

pub returns-then-s-n : goal.returns-then-s-n
returns-then-s-n c = at_end _ _ _ _ c.if-s-eq0.false c.if-s-n.true c.five_from-lower.ensures

pub returns : goal.returns
returns c = between _ _ _ _ c.if-s-eq0.false c.if-s-n.false c.five_from-lower.ensures c.five_from-2.ensures c.governs.ensures
