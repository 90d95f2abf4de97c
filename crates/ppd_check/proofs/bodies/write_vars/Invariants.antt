use Rattle.std.proofs.Common.{◌≡◌, take, ◌≤◌, ◌+◌, ◌*◌}
use Rattle.ppd_check.specs.Sources.{vars}
use Rattle.ppd_check_names.proofs.Declared.Counted.{end_cells}
use Rattle.ppd_check.proofs.bodies.write_vars.Given as goal

-- the variables before, and the first cell after them
abbrev pub invariant-loop-variable : goal.invariant-loop-variable
invariant-loop-variable g l =
    record {
      base : l.base ≡ end_cells 0 (take l.variable-index l.variables);
      list : l.list ≡ vars 0 (take l.variable-index l.variables);
      cost : l.steps ≤ l.fn.steps + 3 * l.variable-index;
    }
