use Rattle.std.proofs.Common.{take}
use Rattle.ppd_flow_local_tables.proofs.Growth.{IsBuilt}
use Rattle.ppd_flow_local_tables.proofs.table.LocalTable.new.Given as goal

abbrev pub invariant-loop-item : goal.invariant-loop-item
invariant-loop-item l = IsBuilt l.program l.plan (take l.item-index l.items) l.building
