-- Each callee's equation in turn; the last span is that of the slab at hand.
-- Assumes nothing.
use Rattle.lines.proofs.Slabs.{sized_of}
use Rattle.spans.specs.Views.{low_end, high_end}
use Rattle.spans.proofs.AtHand.{along_of}
use Rattle.spans.proofs.view.span_view.Goals as goal

pub invariant_of-plan : goal.invariant_of-plan
invariant_of-plan c = record { sized = sized_of _ c.requires.shared }

pub returns : goal.returns
unfolding low_end high_end
returns c = cc (along_of _ c.requires.shared c.args.d)
