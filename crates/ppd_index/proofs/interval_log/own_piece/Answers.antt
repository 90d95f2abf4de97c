use Rattle.std.proofs.Common.{rules, arith}
use Rattle.std.proofs.lemmas.Grind.{elements}
use Rattle.ppd_index.proofs.interval_log.own_piece.Goals as goal

pub as_slice-requires : goal.as_slice-requires
as_slice-requires c = search rules depth 1 fits 30

pub as_slice-requires-in-Some-Prelog : goal.as_slice-requires-in-Some-Prelog
as_slice-requires-in-Some-Prelog c = search rules depth 1 fits 30

pub get-requires : goal.get-requires
get-requires c = search rules depth 1 fits 30

pub returns-in-None : goal.returns-in-None
returns-in-None c = grind (arith, elements) steps 250000

pub returns-in-Some-End : goal.returns-in-Some-End
returns-in-Some-End c = grind (arith, elements) steps 250000

pub returns-in-Some-Prelog : goal.returns-in-Some-Prelog
returns-in-Some-Prelog c = grind (arith, elements) steps 250000

pub returns-in-Some-Sync : goal.returns-in-Some-Sync
returns-in-Some-Sync c = grind (arith, elements) steps 250000

pub returns-in-Some-Unit : goal.returns-in-Some-Unit
returns-in-Some-Unit c = grind (arith, elements) steps 250000
