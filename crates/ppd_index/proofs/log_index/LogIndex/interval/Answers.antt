use Rattle.std.proofs.Common.{rules, arith}
use Rattle.std.proofs.lemmas.Grind.{elements}
use Rattle.ppd_index.proofs.log_index.LogIndex.interval.Goals as goal

pub as_slice-requires : goal.as_slice-requires
as_slice-requires c = search rules depth 1 fits 30

pub get-requires : goal.get-requires
get-requires c = search rules depth 1 fits 30

pub interval_of-requires : goal.interval_of-requires
interval_of-requires c = search rules depth 1 fits 30

pub returns-in-None : goal.returns-in-None
returns-in-None c = grind (arith, elements) steps 250000

pub returns-in-Some : goal.returns-in-Some
returns-in-Some c = grind (arith, elements) steps 250000

pub rows_at-requires : goal.rows_at-requires
rows_at-requires c = search rules depth 1 fits 30
