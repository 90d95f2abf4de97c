use Rattle.std.proofs.Common.{rules, arith}
use Rattle.std.proofs.lemmas.Grind.{common_steps}
use Rattle.ppd_flow_shared.proofs.pairs.pair_origin.Goals as goal

pub branch-pair_of-requires : goal.branch-pair_of-requires
branch-pair_of-requires g c = search rules depth 1 fits 30

pub node_place-requires : goal.node_place-requires
node_place-requires g c = search rules depth 1 fits 30

pub pair_of-requires : goal.pair_of-requires
pair_of-requires g c = search rules depth 1 fits 30

pub returns-in-Initial : goal.returns-in-Initial
returns-in-Initial g c = grind (arith, common_steps) steps 250000

pub returns-in-Nothing : goal.returns-in-Nothing
returns-in-Nothing g c = grind (arith, common_steps) steps 250000

pub returns-in_err-pair_of : goal.returns-in_err-pair_of
returns-in_err-pair_of g c = search rules depth 1 fits 30
