use Rattle.std.specs.List.{flat_map}
use Rattle.std.proofs.Common.{◌≡◌, ◌++◌, take}
use Rattle.ppd_top_runs.specs.Ends.{print_text}
use Rattle.ppd_top_runs.proofs.text.put_prints.Given as goal

abbrev pub invariant-loop-value : goal.invariant-loop-value
invariant-loop-value l = l.text.items ≡ l.initial.text.items ++ flat_map (print_text l.name) (take l.value-index l.values)
