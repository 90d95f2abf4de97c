use Rattle.std.proofs.Common.{◌≡◌, ◌++◌, take}
use Rattle.std.specs.Prelude.{codes, decimal}
use Rattle.std.specs.List.{flat_map}
use Rattle.ppd_text.specs.CellNames.{process_name}
use Rattle.ppd_text_refusals.proofs.recording.put_nodes.Given as goal

abbrev pub invariant-loop-node : goal.invariant-loop-node
invariant-loop-node l =
    l.line.items
    ≡ l.initial.line.items
    ++ flat_map (λ n. codes " " ++ process_name l.program n.process ++ codes " " ++ decimal n.sync)
    (take l.node-index l.nodes)
