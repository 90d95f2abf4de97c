use Rattle.ppd_parse.specs.Tree.{tree_of}
use Rattle.ppd_check.proofs.Linear.{table_few, parsed_few}
use Rattle.ppd_check.proofs.source.read_source.Goals as goal
use Rattle.std.proofs.Common.{rules, arith}

pub returns-clause-few : goal.returns-clause-few
returns-clause-few c =
    let t = tree_of c.in_ok-tree.tree.nodes in
    omega (arith, table_few t c.in_ok-program.program c.in_ok-program.ensures.core, parsed_few c.args.bytes.now t c.in_ok-tree.ensures.parsed)

pub returns-in_err-tree : goal.returns-in_err-tree
returns-in_err-tree c = search rules depth 1 fits 30
