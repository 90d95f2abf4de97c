use Rattle.std.proofs.Common.{◌≡◌, ◌++◌, take}
use Rattle.std.specs.List.{flat_map}
use Rattle.ppd_top.specs.Queries.{reached_line}
use Rattle.ppd_top.proofs.slices.put_all_reached.Given as goal

abbrev pub invariant-loop-reached : goal.invariant-loop-reached
invariant-loop-reached l = l.text.items ≡ l.initial.text.items ++ flat_map (reached_line l.program) (take l.reached-index l.found)
