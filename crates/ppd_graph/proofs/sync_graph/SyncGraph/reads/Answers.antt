use Rattle.std.proofs.Common.{rules, arith}
use Rattle.std.proofs.lemmas.Grind.{common_steps}
use Rattle.ppd_graph.proofs.sync_graph.SyncGraph.reads.Goals as goal

pub as_slice-requires : goal.as_slice-requires
as_slice-requires c = search rules depth 1 fits 30

pub as_slice-requires-2 : goal.as_slice-requires-2
as_slice-requires-2 c = search rules depth 1 fits 30

pub as_slice-requires-3 : goal.as_slice-requires-3
as_slice-requires-3 c = search rules depth 1 fits 30

pub bounds-as_slice-e : goal.bounds-as_slice-e
bounds-as_slice-e c = grind (arith, common_steps) steps 250000

pub bounds-as_slice-e-2 : goal.bounds-as_slice-e-2
bounds-as_slice-e-2 c = grind (arith, common_steps) steps 250000

pub returns : goal.returns
returns c = grind (arith, common_steps) steps 250000
