use Rattle.std.proofs.Common.{arith, ◌≤◌}
use Rattle.ppd_ast.proofs.Growing.{numbers_more}
use Rattle.ppd_blocks.proofs.bare.add_stmts.Goals as goal

pub loop-number-preserved : goal.loop-number-preserved
loop-number-preserved g c =
    let low : c.args.body.now.first ≤ c.loop-number.number = omega arith in
    record {
      added = numbers_more (g.T.Bare.bare c.args.program.now.bodies) (g.T.Bare.at_stmt c.args.program.now.stmts c.args.policy) c.args.list.now c.loop-number.list c.add_stmt.new.list c.args.body.now.first c.loop-number.number low c.loop-number.invariant.added c.in_ok-add_stmt.ensures;
      within = omega (arith, c.loop-number-test.true);
    }
