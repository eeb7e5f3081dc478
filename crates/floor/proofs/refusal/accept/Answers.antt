-- Each test in its turn, as the chain has them; past checks 1 to 3 the later ones have what they ask (Filed). The plan is of the file.
-- Assumes nothing.
use Rattle.numbers.proofs.Chains.{tries}
use Rattle.floor.specs.Refusal.{refusal, floor_checks, values_refusal}
use Rattle.floor.proofs.Filed.{first_in, filed}
use mathlib.Core.Bool.{not}
use mathlib.Core.Path.{ap}
use Rattle.floor.proofs.refusal.accept.Goals as goal

pub returns-then-not-length_ok : goal.returns-then-not-length_ok
unfolding refusal floor_checks values_refusal
returns-then-not-length_ok c = search tries

pub first_ok-requires : goal.first_ok-requires
first_ok-requires c = first_in _ c.length_ok.ensures (ap not c.if-not-length_ok.false)

pub returns-then-not-first_ok : goal.returns-then-not-first_ok
unfolding refusal floor_checks values_refusal
returns-then-not-first_ok c = search tries

pub returns-then-not-count_ok : goal.returns-then-not-count_ok
unfolding refusal floor_checks values_refusal
returns-then-not-count_ok c = let counted = rw c.of-plan.ensures at c.count_ok.ensures in search (tries, counted)

pub every_record-requires : goal.every_record-requires
every_record-requires c =
    rw c.of-plan.ensures
    (filed _ c.first_ok.ensures (ap not c.if-not-first_ok.false) (rw c.of-plan.ensures at c.count_ok.ensures) (ap not c.if-not-count_ok.false))

pub returns-then-not-every_record : goal.returns-then-not-every_record
unfolding refusal floor_checks values_refusal
returns-then-not-every_record c =
    let counted = rw c.of-plan.ensures at c.count_ok.ensures in
    let listed = rw c.of-plan.ensures at c.every_record.ensures in
    search (tries, counted, listed)

pub accept_values-requires : goal.accept_values-requires
accept_values-requires c =
    rw c.of-plan.ensures
    (filed _ c.first_ok.ensures (ap not c.if-not-first_ok.false) (rw c.of-plan.ensures at c.count_ok.ensures) (ap not c.if-not-count_ok.false))

pub returns : goal.returns
unfolding refusal floor_checks values_refusal
returns c =
    let counted = rw c.of-plan.ensures at c.count_ok.ensures in
    let listed = rw c.of-plan.ensures at c.every_record.ensures in
    let decided = rw c.of-plan.ensures at c.accept_values.ensures in
    search (tries, counted, listed, decided) depth 8
