use Rattle.std.proofs.Common.{◌≡◌, ℕ, ◌+◌, ◌<◌, List, get_or, length}
use Rattle.ppd_model.specs.declared.entry.Entry.{Entry}
use Rattle.ppd_flow_tables.specs.Tables.{IsEdgeTable, edge_of}
use Rattle.ppd_flow_tables.proofs.place_build.edges_of.Given as goal

abbrev pub invariant-loop-item : goal.invariant-loop-item
invariant-loop-item l = record {
  long : length l.numbers ≡ l.item-index + 1;
  last : (entries : List Entry) → IsEdgeTable entries l.edges → l.edge ≡ edge_of entries l.interval l.items
      l.item-index;
  are : (entries : List Entry) → IsEdgeTable entries l.edges → (j : ℕ) → j < l.item-index + 1
      → get_or l.numbers j 0 ≡ edge_of entries l.interval l.items j;
}
