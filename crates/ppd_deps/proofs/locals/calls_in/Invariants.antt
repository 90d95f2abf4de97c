use Rattle.std.proofs.Common.{◌≡◌, ◌-◌, ◌≤◌}
use Rattle.std.specs.List.{filter, range_with_len}
use Rattle.ppd_deps.specs.Named.{calls}
use Rattle.ppd_deps.proofs.locals.calls_in.Given as goal

abbrev pub invariant-loop-stmt : goal.invariant-loop-stmt
invariant-loop-stmt l = record {
  found : l.ids ≡ filter (λ c. calls l.program c l.function) (range_with_len l.body.first (l.stmt - l.body.first));
  within : l.stmt - l.body.first ≤ l.stmt-end - l.body.first;
}
