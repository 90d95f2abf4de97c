use Rattle.std.proofs.Common.{arith, refl}
use Rattle.ppd_check.proofs.Filling.{cells_on, vars_more}
use Rattle.ppd_check.proofs.bodies.write_vars.Goals as goal

pub loop-variable-preserved : goal.loop-variable-preserved
loop-variable-preserved g c =
    record {
      base =
          cells_on c.args.variables.now c.loop-variable.variable-index c.loop-variable.base c.after_cells-base.result c.variable-item.result
          (omega (arith, c.loop-variable-test.true)) c.variable-item.is c.loop-variable.invariant.base c.after_cells-base.ensures;
      list =
          vars_more c.args.variables.now c.loop-variable.variable-index c.loop-variable.base c.variable-item.result _ c.loop-variable.list c.push_var.new.list
          (omega (arith, c.loop-variable-test.true)) c.variable-item.is c.loop-variable.invariant.base refl c.loop-variable.invariant.list c.in_ok-push_var.ensures.pushed;
      cost = omega (arith, c.loop-variable.invariant.cost, c.tick.ensures, c.push_var.ensures.cost);
    }
