use Rattle.std.proofs.Common.{◌≡◌, ◌++◌, take}
use Rattle.std.specs.List.{flat_map}
use Rattle.ppd_text.specs.Edges.{edge_line}
use Rattle.ppd_text.proofs.edges.put_each_edge.Given as goal

abbrev pub invariant-loop-edge : goal.invariant-loop-edge
invariant-loop-edge l =
    l.text.items ≡ l.initial.text.items ++ flat_map (edge_line l.program l.locals) (take l.edge-index l.edges)
