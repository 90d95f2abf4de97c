use Rattle.std.proofs.Common.{rules, arith}
use Rattle.std.proofs.lemmas.Grind.{common_steps, elements}
use Rattle.ppd_flow_shared.proofs.search.CellSearch.origin_before.Goals as goal

pub edge_before-requires : goal.edge_before-requires
edge_before-requires c = search rules depth 1 fits 30

pub returns : goal.returns
returns c = grind (arith, elements) steps 250000

pub returns-in_err-best : goal.returns-in_err-best
returns-in_err-best c = grind (arith, common_steps) steps 250000

pub written_or_start-requires : goal.written_or_start-requires
written_or_start-requires c = search rules depth 1 fits 30
