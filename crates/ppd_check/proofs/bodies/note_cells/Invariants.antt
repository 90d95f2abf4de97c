use Rattle.std.proofs.Common.{◌≡◌, take, ◌≤◌, ◌+◌}
use Rattle.ppd_ast.specs.declared.limits.TheConstants.{MOST_LOCAL_CELLS}
use Rattle.ppd_check_names.specs.declared.fault.Limit.TheVariants.{Locals}
use Rattle.ppd_check_names.specs.Faults.{first, first_of_both}
use Rattle.ppd_check_names.specs.Globals.{past_cells}
use Rattle.ppd_check_names.proofs.Declared.Counted.{end_cells}
use Rattle.ppd_check.proofs.bodies.note_cells.Given as goal

-- the variables before, and the first cell after them
abbrev pub invariant-loop-variable : goal.invariant-loop-variable
invariant-loop-variable g l =
    record {
      cells : l.cells ≡ end_cells 0 (take l.variable-index l.variables);
      found : l.found ≡ first_of_both l.fn.found (first (past_cells MOST_LOCAL_CELLS Locals 0 (take l.variable-index l.variables)));
      cost : l.steps ≤ l.fn.steps + l.variable-index;
    }
