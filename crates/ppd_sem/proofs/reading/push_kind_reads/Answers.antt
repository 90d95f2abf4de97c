use Rattle.std.proofs.Common.{rules, arith}
use Rattle.std.proofs.lemmas.Grind.{common_steps}
use Rattle.ppd_sem.proofs.reading.push_kind_reads.Goals as goal

pub as_slice-requires : goal.as_slice-requires
as_slice-requires c = search rules depth 1 fits 30

pub push_all-requires : goal.push_all-requires
push_all-requires c = search rules depth 1 fits 30

pub push_index-requires : goal.push_index-requires
push_index-requires c = search rules depth 1 fits 30

pub push_reads-requires : goal.push_reads-requires
push_reads-requires c = search rules depth 1 fits 30

pub push_reads-requires-in-Some : goal.push_reads-requires-in-Some
push_reads-requires-in-Some c = search rules depth 1 fits 30

pub returns-in-Call : goal.returns-in-Call
returns-in-Call c = search rules depth 1 fits 30

pub returns-in-Err : goal.returns-in-Err
returns-in-Err c = search rules depth 1 fits 30

pub returns-in-None : goal.returns-in-None
returns-in-None c = search rules depth 1 fits 30

pub returns-in-Ok : goal.returns-in-Ok
returns-in-Ok c = grind (arith, common_steps) steps 250000

pub returns-in-Some : goal.returns-in-Some
returns-in-Some c = search rules depth 1 fits 30

pub returns-in_err-push_index-in-Set : goal.returns-in_err-push_index-in-Set
returns-in_err-push_index-in-Set c = search rules depth 1 fits 30

pub target_cell-requires : goal.target_cell-requires
target_cell-requires c = search rules depth 1 fits 30

pub valued-requires : goal.valued-requires
valued-requires c = search rules depth 1 fits 30
