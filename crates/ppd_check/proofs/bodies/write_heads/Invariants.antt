use Rattle.std.proofs.Common.{◌≡◌, map, take, ◌≤◌, ◌+◌, ◌*◌}
use Rattle.ppd_check.specs.Bodies.{WroteHeads}
use Rattle.ppd_check_names.specs.Holding.{head_at}
use Rattle.ppd_check_names.specs.Names.{innermost}
use Rattle.ppd_check_names.specs.Cost.{total, nodes_at}
use Rattle.ppd_check.proofs.bodies.write_heads.Given as goal

-- those before
abbrev pub invariant-loop-id : goal.invariant-loop-id
invariant-loop-id g l =
    record {
      scopes : l.scopes ≡ l.initial.scopes;
      wrote : WroteHeads (innermost l.initial.scopes) (map (head_at l.heads.source.nodes.now) (take l.id-index l.ids)) l.fn.out.table l.out.table l.fn.bodies l.bodies;
      cost : l.steps ≤ l.fn.steps + 113 * total (nodes_at l.heads.source.nodes.now) (take l.id-index l.ids);
    }
