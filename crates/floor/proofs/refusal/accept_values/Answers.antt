-- Each test in its turn, as the chain has them.
-- Assumes nothing.
use Rattle.numbers.proofs.Chains.{tries}
use Rattle.floor.specs.Refusal.{values_refusal, value_checks}
use Rattle.floor.proofs.Filed.{bayed}
use Rattle.floor.proofs.refusal.accept_values.Goals as goal

pub returns-then-not-every_record : goal.returns-then-not-every_record
unfolding values_refusal value_checks
returns-then-not-every_record c = search tries

pub returns-then-not-kept : goal.returns-then-not-kept
unfolding values_refusal value_checks
returns-then-not-kept c = search tries

pub beams_ok-requires : goal.beams_ok-requires
unfolding values_refusal value_checks
beams_ok-requires c = bayed c.requires

pub returns-then-not-beams_ok : goal.returns-then-not-beams_ok
unfolding values_refusal value_checks
returns-then-not-beams_ok c = search tries

pub returns : goal.returns
unfolding values_refusal value_checks
returns c = search tries depth 8
