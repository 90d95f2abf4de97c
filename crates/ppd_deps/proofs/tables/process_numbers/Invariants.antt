use Rattle.std.proofs.Common.{◌≡◌, ◌-◌, ◌≤◌}
use Rattle.std.specs.List.{range_with_len}
use Rattle.ppd_deps.proofs.tables.process_numbers.Given as goal

abbrev pub invariant-loop-body : goal.invariant-loop-body
invariant-loop-body l = record {
  found : l.ids ≡ range_with_len l.program.functions (l.body - l.program.functions);
  within : l.body - l.program.functions ≤ l.body-end - l.program.functions;
}
