use Rattle.std.proofs.Common.{arith}
use Rattle.ppd_check.proofs.Returned.{returned_more}
use Rattle.ppd_check.proofs.returns.note_returns.Goals as goal

pub loop-stmt-preserved : goal.loop-stmt-preserved
loop-stmt-preserved g c = record {
  faults =
      returned_more c.args.stmts.now c.loop-stmt.stmt-index c.stmt-item.result c.args.found.now c.loop-stmt.found c.note_return.new.found
      (omega (arith, c.loop-stmt-test.true)) c.stmt-item.is c.loop-stmt.invariant.faults c.note_return.ensures;
  cost = omega (arith, c.loop-stmt.invariant.cost, c.tick.ensures);
}
