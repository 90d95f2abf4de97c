use Rattle.ppd_ast.specs.Numbered.{of_body}
use Rattle.ppd_ast.proofs.Growing.{bodies_grown}
use Rattle.ppd_blocks.proofs.bare.all_bare.Goals as goal

pub loop-number-preserved : goal.loop-number-preserved
loop-number-preserved g c =
    let all = of_body g.T.Bare.own g.T.Bare.at_stmt c.args.program.now.stmts c.args.policy in
    bodies_grown (g.T.Bare.bare c.args.program.now.bodies) all c.loop-number.list c.add_body.new.list c.as_slice-bodies.result.now c.loop-number.number c.index-bodies-number.result c.loop-number-test.true c.index-bodies-number.is c.loop-number.invariant c.in_ok-add_body.ensures
