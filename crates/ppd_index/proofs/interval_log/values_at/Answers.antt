use Rattle.std.proofs.Common.{rules, arith}
use Rattle.std.proofs.lemmas.Grind.{elements}
use Rattle.ppd_index.proofs.interval_log.values_at.Goals as goal

pub as_slice-requires : goal.as_slice-requires
as_slice-requires c = search rules depth 1 fits 30

pub as_slice-requires-in-Some-Postlog : goal.as_slice-requires-in-Some-Postlog
as_slice-requires-in-Some-Postlog c = search rules depth 1 fits 30

pub as_slice-requires-in-Some-Unit : goal.as_slice-requires-in-Some-Unit
as_slice-requires-in-Some-Unit c = search rules depth 1 fits 30

pub get-requires : goal.get-requires
get-requires c = search rules depth 1 fits 30

pub returns-in-Some-Postlog : goal.returns-in-Some-Postlog
returns-in-Some-Postlog c = grind (arith, elements) steps 250000

pub returns-in-Some-Prelog : goal.returns-in-Some-Prelog
returns-in-Some-Prelog c = grind (arith, elements) steps 250000

pub returns-in-Some-Unit : goal.returns-in-Some-Unit
returns-in-Some-Unit c = grind (arith, elements) steps 250000

pub returns-in_default : goal.returns-in_default
returns-in_default c = grind (arith, elements) steps 250000
