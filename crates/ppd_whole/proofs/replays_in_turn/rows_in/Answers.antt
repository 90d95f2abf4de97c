use Rattle.std.proofs.lemmas.Grind.{common_steps}
use Rattle.std.proofs.Common.{◌≡◌, false, Result, Ok, Err, arith, rules}
use Rattle.std.specs.Result.{OnOk, is_err}
use Rattle.ppd_whole.proofs.Gathered.{cost_at, fails_at, good_at, rows_at}
use Rattle.ppd_whole.proofs.replays_in_turn.rows_in.Goals as goal

pushed : {T E P : Type 0} (r : Result T E) → OnOk r P → false ≡ is_err r → P
pushed (Ok v) h e = h
pushed (Err error) h e = absurd (cc e)

pub returns-in-Err-clause-is : goal.returns-in-Err-clause-is
returns-in-Err-clause-is g c =
    fails_at c.args.past.now c.args.jobs.now c.loop-job.job-index c.loop-job-test.true c.in-Err.error c.loop-job.invariant.good c.in-Err.ensures.is

pub loop-job-preserved : goal.loop-job-preserved
loop-job-preserved g c =
    let past = c.args.past.now in
    let jobs = c.args.jobs.now in
    let i = c.loop-job.job-index in
    let replay = c.in-Ok.ensures.is in
    let after = pushed c.push.result c.push.ensures.ok c.if-is_err.ensures.value in
    record {
      good = good_at past jobs i c.loop-job-test.true c.loop-job.invariant.good replay.0;
      rows = rows_at past jobs i c.loop-job-test.true c.loop-job.rows c.push.new.self c.in-Ok.items c.loop-job.invariant.rows replay.1 after;
      spent = omega (arith, c.in-Ok.ensures.cost, c.loop-job.invariant.spent, cost_at past jobs i c.loop-job-test.true);
    }

pub items_in-requires : goal.items_in-requires
items_in-requires c = search rules depth 1 fits 30

pub loop-job-init : goal.loop-job-init
loop-job-init c = search rules depth 1 fits 30

pub loop-job-smaller : goal.loop-job-smaller
loop-job-smaller c = search rules depth 1 fits 30

pub new-rows-requires : goal.new-rows-requires
new-rows-requires c = search rules depth 1 fits 30

pub push-requires : goal.push-requires
push-requires c = search rules depth 1 fits 30

pub returns-in-Err-clause-cost : goal.returns-in-Err-clause-cost
returns-in-Err-clause-cost c = grind (arith, common_steps) steps 250000

pub returns-then-is_err : goal.returns-then-is_err
returns-then-is_err c = grind (arith, common_steps) steps 250000
