use Rattle.std.proofs.Common.{◌≡◌, drop}
use Rattle.std.specs.List.{list_any}
use Rattle.ppd_graph.specs.Locals.{is_local}
use Rattle.ppd_flow_local.proofs.scan.writes.Given as goal

abbrev pub invariant-loop-access : goal.invariant-loop-access
invariant-loop-access l =
    list_any (λ a. is_local l.wanted.frame l.wanted.cell a.spot) (drop l.access-index l.event.writes)
    ≡ list_any (λ a. is_local l.wanted.frame l.wanted.cell a.spot) l.event.writes
