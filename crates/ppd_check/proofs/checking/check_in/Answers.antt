use Rattle.ppd_parse.specs.Tree.{tree_of}
use Rattle.ppd_check.proofs.AcceptedValid.{table_valid}
use Rattle.ppd_check.proofs.Linear.{nodes_few}
use Rattle.ppd_check.proofs.Sourced.{accepted_told}
use Rattle.ppd_check.proofs.checking.check_in.Goals as goal
use Rattle.std.proofs.Common.{arith}
use Rattle.std.proofs.lemmas.Grind.{common_steps}

pub returns-in-None-clause-check : goal.returns-in-None-clause-check
returns-in-None-clause-check g c =
    let nodes = c.args.tree.now.nodes in
    let program = c.in_ok-checked.checked.program in
    let told = accepted_told nodes c.as_slice.result.now program c.in_ok-checked.checked.found c.as_slice.ensures c.in_ok-checked.ensures.found c.in_ok-checked.ensures.program c.in-None.is in
    record { core = told; valid = table_valid (tree_of nodes) program told; few = nodes_few nodes program c.requires.table told; refused = tt }

pub error_of-requires : goal.error_of-requires
error_of-requires c = omega arith

pub returns-in_err-checked : goal.returns-in_err-checked
returns-in_err-checked c = grind (arith, common_steps) steps 250000
