use Rattle.std.proofs.Common.{ap, arith, ◌≡◌, ◌≤◌, ◌+◌, ◌*◌, subst, length}
use Rattle.std.specs.List.{sum_by}
use Rattle.std.proofs.lemmas.Result.{IfOk-weaker}
use Rattle.ppd_race.specs.ByCell.{own_cost}
use Rattle.ppd_race_found.specs.Search.{row_cost, IsRising}
use Rattle.ppd_race.specs.Busy.{races_by_rows}
use Rattle.ppd_race.specs.Races.{AreRacesOf}
use Rattle.ppd_race.specs.Spending.{search_cost, search_least}
use Rattle.ppd_race.proofs.Spent.{search_spent}
use Rattle.ppd_race.proofs.Whole.{found_by_rows}
use Rattle.ppd_race.proofs.search.races_in.Goals as goal

pub returns-clause-races : goal.returns-clause-races
returns-clause-races g c =
    let graph = c.args.graph.now in
    IfOk-weaker c.all_races.result (λ races. IsRising graph → races ≡ races_by_rows graph c.as_slice.result.now) (AreRacesOf graph)
    (λ races found. found_by_rows graph c.in_ok-rows.rows races c.in_ok-rows.ensures.busy (subst (λ rows. IsRising graph → races ≡ races_by_rows graph rows) c.as_slice.ensures found)) c.all_races.ensures.races

pub returns-clause-cost : goal.returns-clause-cost
returns-clause-cost g c =
    let own = c.as_slice.result.now in
    let after = c.all_races.new.steps in
    let before = c.busy_in.new.steps in
    IfOk-weaker c.all_races.result (λ races. after ≤ before + length own * (2049 + sum_by row_cost own) + sum_by own_cost own + length races) (λ races. after ≤ c.args.steps.now + search_cost c.args.graph.now + length races)
    (λ races spent. search_spent c.args.graph.now c.in_ok-rows.rows c.args.steps.now before after (length races) c.in_ok-rows.ensures.busy.processes c.in_ok-rows.ensures.size c.in_ok-rows.ensures.cost
    (subst (λ rows. after ≤ before + length rows * (2049 + sum_by row_cost rows) + sum_by own_cost rows + length races) c.as_slice.ensures spent)) c.all_races.ensures.cost

pub returns-clause-least : goal.returns-clause-least
returns-clause-least g c =
    let many = c.in_ok-rows.ensures.busy.processes in
    let long = ap length c.as_slice.ensures in
    let after = c.all_races.new.steps in
    IfOk-weaker c.all_races.result (λ races. c.busy_in.new.steps + 2049 * length c.as_slice.result.now + length races ≤ after) (λ races. c.args.steps.now + search_least c.args.graph.now + length races ≤ after)
    (λ races taken. omega (arith, many, long, c.in_ok-rows.ensures.least, taken)) c.all_races.ensures.least
