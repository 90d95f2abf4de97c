use Rattle.std.proofs.Common.{◌≡◌, take, ◌≤◌, ◌+◌}
use Rattle.std.specs.List.{flat_map}
use Rattle.ppd_check.specs.Endings.{returned}
use Rattle.ppd_check_names.specs.Faults.{first, first_of_both}
use Rattle.ppd_check.proofs.returns.note_returns.Given as goal

-- those among the statements before
abbrev pub invariant-loop-stmt : goal.invariant-loop-stmt
invariant-loop-stmt g l = record {
  faults : l.found ≡ first_of_both l.fn.found (first (flat_map returned (take l.stmt-index l.stmts)));
  cost : l.steps ≤ l.fn.steps + l.stmt-index;
}
