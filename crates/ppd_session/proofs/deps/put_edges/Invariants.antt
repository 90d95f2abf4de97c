use Rattle.std.proofs.Common.{◌≡◌, ◌++◌, take}
use Rattle.std.specs.List.{flat_map}
use Rattle.ppd_session.specs.Texts.{edge_line}
use Rattle.ppd_session.proofs.deps.put_edges.Given as goal

abbrev pub invariant-loop-edge : goal.invariant-loop-edge
invariant-loop-edge l = l.text.items ≡ l.initial.text.items ++ flat_map (edge_line l.program l.stmt) (take l.edge-index l.edges)
