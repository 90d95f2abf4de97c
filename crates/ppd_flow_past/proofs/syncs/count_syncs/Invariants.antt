use Rattle.std.proofs.Common.{◌≡◌, take}
use Rattle.std.specs.List.{count_by}
use Rattle.ppd_graph.proofs.FlowWords.{is_sync}
use Rattle.ppd_flow_past.proofs.syncs.count_syncs.Given as goal

abbrev pub invariant-loop-entry : goal.invariant-loop-entry
invariant-loop-entry l = l.count ≡ count_by is_sync (take l.entry-index l.entries)
