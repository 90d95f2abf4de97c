use Rattle.std.proofs.Common.{◌≡◌, ◌++◌, ◌≤◌, ◌-◌}
use Rattle.std.specs.List.{flat_map, range_with_len}
use Rattle.ppd_text.specs.Table.{stmt_at}
use Rattle.ppd_text.proofs.lines.put_stmts.Given as goal

abbrev pub invariant-loop-number : goal.invariant-loop-number
invariant-loop-number l = record {
  written : l.text.items ≡ l.initial.text.items ++ flat_map (stmt_at l.program) (range_with_len l.body.first (l.number - l.body.first));
  within : l.number - l.body.first ≤ l.number-end - l.body.first;
}
