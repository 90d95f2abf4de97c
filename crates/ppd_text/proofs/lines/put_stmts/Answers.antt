use Rattle.std.proofs.Common.{◌≤◌, arith}
use Rattle.ppd_text.specs.Table.{stmt_at}
use Rattle.ppd_text.proofs.Joined.{range_joined}
use Rattle.ppd_text.proofs.lines.put_stmts.Goals as goal

pub loop-number-preserved : goal.loop-number-preserved
loop-number-preserved c =
    let low : c.args.body.now.first ≤ c.loop-number.number = omega arith in
    record {
      written = range_joined (stmt_at c.args.program.now) c.args.body.now.first c.loop-number.number c.args.text.now.items c.loop-number.text.items c.put_stmt_at.new.text.items low c.loop-number.invariant.written c.in_ok-put_stmt_at.ensures;
      within = omega (arith, c.loop-number-test.true);
    }
