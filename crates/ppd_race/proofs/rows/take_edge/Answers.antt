use Rattle.std.proofs.Common.{◌∙◌, ap, arith, rules}
use Rattle.std.specs.List.{sum_by}
use Rattle.std.proofs.lemmas.List.Sums.{sum_by_push}
use Rattle.ppd_race_found.specs.Search.{edge_cost}
use Rattle.ppd_race.proofs.BusyRows.{takes_none, takes_one}
use Rattle.ppd_race.proofs.rows.take_edge.Goals as goal
use Rattle.std.proofs.lemmas.Grind.{common_steps, elements}

pub returns-then-is_idle-clause-takes : goal.returns-then-is_idle-clause-takes
returns-then-is_idle-clause-takes g c = takes_none c.args.sets.now c.args.row.now c.args.edge c.is_idle.result c.is_idle.ensures c.if-is_idle.true

pub returns-clause-takes : goal.returns-clause-takes
returns-clause-takes g c =
    takes_one c.args.sets.now c.args.row.now c.push.new.self c.args.edge c.is_idle.result c.is_idle.ensures c.if-is_idle.false c.in_ok-busy.busy c.in_ok-push.ensures.ok c.in_ok-busy.ensures.busy

pub returns-clause-size : goal.returns-clause-size
returns-clause-size g c =
    let more = ap (sum_by edge_cost) c.in_ok-push.ensures.ok ∙ sum_by_push edge_cost c.args.row.now c.in_ok-busy.busy in
    omega (arith, more, c.in_ok-busy.ensures.size)

pub branch-busy-requires : goal.branch-busy-requires
branch-busy-requires c = search rules depth 1 fits 30

pub busy_edge-requires : goal.busy_edge-requires
busy_edge-requires c = search rules depth 1 fits 30

pub from_residual-requires : goal.from_residual-requires
from_residual-requires c = search rules depth 1 fits 30

pub is_idle-requires : goal.is_idle-requires
is_idle-requires c = search rules depth 1 fits 30

pub push-requires : goal.push-requires
push-requires c = search rules depth 1 fits 30

pub returns-clause-cost : goal.returns-clause-cost
returns-clause-cost c = search rules depth 1 fits 30

pub returns-clause-on : goal.returns-clause-on
returns-clause-on c = grind (arith, common_steps) steps 250000

pub returns-in_err-busy : goal.returns-in_err-busy
returns-in_err-busy c = grind (arith, elements) steps 250000

pub returns-in_err-push : goal.returns-in_err-push
returns-in_err-push c = grind (arith, elements) steps 250000

pub returns-then-is_idle-clause-cost : goal.returns-then-is_idle-clause-cost
returns-then-is_idle-clause-cost c = search rules depth 1 fits 30

pub returns-then-is_idle-clause-on : goal.returns-then-is_idle-clause-on
returns-then-is_idle-clause-on c = search rules depth 1 fits 30

pub returns-then-is_idle-clause-size : goal.returns-then-is_idle-clause-size
returns-then-is_idle-clause-size c = search rules depth 1 fits 30
