-- The bays that were read are the floor's (Slabs).
-- Assumes nothing.
use Rattle.lines.proofs.Slabs.{sized_of}
use Rattle.lines.proofs.survey.Floor.plan.Goals as goal

pub invariant_of-result : goal.invariant_of-result
invariant_of-result c = record { sized = sized_of _ c.args.self.now.shared }
