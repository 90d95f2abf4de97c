use Rattle.std.proofs.Common.{◌≡◌, drop}
use Rattle.std.specs.Prelude.{fold}
use Rattle.ppd_graph.specs.Locals.{scan_item}
use Rattle.ppd_flow_local.specs.Scans.{scanned}
use Rattle.ppd_flow_local.proofs.scan.Scan.items.Given as goal

abbrev pub invariant-loop-item : goal.invariant-loop-item
invariant-loop-item l = record {
  scan : fold (scan_item l.code.program.now l.code.plan.now l.wanted.frame l.wanted.cell) (scanned l.self) (drop l.item-index l.items)
      ≡ fold (scan_item l.code.program.now l.code.plan.now l.wanted.frame l.wanted.cell) (scanned l.fn.self) l.items;
  next : l.self.next ≡ l.item-index;
}
