use Rattle.std.proofs.Common.{◌∙◌, ap, arith, Bool}
use Rattle.ppd_check_names.specs.declared.fault.Cause.TheVariants.{TooMany}
use Rattle.ppd_check_names.specs.declared.fault.Limit.TheVariants.{Locals}
use Rattle.ppd_check_names.specs.Faults.{if_so, first, first_of_both}
use Rattle.ppd_check.proofs.Filling.{cells_more, cells_on}
use Rattle.ppd_check.proofs.bodies.note_cells.Goals as goal

pub loop-variable-preserved : goal.loop-variable-preserved
loop-variable-preserved g c =
    record {
      cells =
          cells_on c.args.variables.now c.loop-variable.variable-index c.loop-variable.cells c.after_cells-cells.result c.variable-item.result
          (omega (arith, c.loop-variable-test.true)) c.variable-item.is c.loop-variable.invariant.cells c.after_cells-cells.ensures;
      found =
          cells_more c.args.variables.now c.loop-variable.variable-index c.loop-variable.cells c.after_cells-cells.result c.variable-item.result c.args.found.now c.loop-variable.found c.note_if.new.found
          (omega (arith, c.loop-variable-test.true)) c.variable-item.is c.loop-variable.invariant.cells c.after_cells-cells.ensures c.loop-variable.invariant.found
          (c.note_if.ensures ∙ ap (λ (b : Bool). first_of_both c.loop-variable.found (first (if_so b c.variable-item.result.place (TooMany Locals)))) c.is_past.ensures);
      cost = omega (arith, c.loop-variable.invariant.cost, c.tick.ensures);
    }
