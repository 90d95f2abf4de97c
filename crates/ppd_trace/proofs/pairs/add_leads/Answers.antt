use Rattle.std.proofs.Common.{◌≡◌, ◌<◌, length, get_or, ap, rules, arith}
use Rattle.ppd_trace.proofs.Costs.{list_on, list_within}
use Rattle.ppd_trace.proofs.Leading.{processes_on}
use Rattle.ppd_trace.proofs.pairs.add_leads.Goals as goal

pub returns-in_err-add_process-clause-cost : goal.returns-in_err-add_process-clause-cost
returns-in_err-add_process-clause-cost g c =
    let lists = c.args.story.now.steps in
    let i = c.loop-process.process in
    let own = c.as_slice-own.result.now in
    let inside : i < length lists = omega (arith, ap length c.as_slice-lists.ensures) in
    let is : own ≡ get_or lists i own = search rules in
    list_within lists c.args.steps.now i own c.loop-process.steps c.add_process.new.steps inside is c.loop-process.invariant.spent (omega (arith, c.tick.ensures, c.in_err-add_process.ensures.cost))

pub loop-process-preserved : goal.loop-process-preserved
loop-process-preserved g c =
    let lists = c.args.story.now.steps in
    let i = c.loop-process.process in
    let own = c.as_slice-own.result.now in
    let inside : i < length lists = omega (arith, ap length c.as_slice-lists.ensures) in
    let is : own ≡ get_or lists i own = search rules in
    record {
      kept = λ o k. processes_on c.args.program.now c.args.kind c.loop-process.leads c.add_process.new.leads i lists own o k _ inside is (c.in_ok-add_process.ensures.kept o k) (c.loop-process.invariant.kept o k);
      spent = list_on lists c.args.steps.now i own c.loop-process.steps c.add_process.new.steps inside is c.loop-process.invariant.spent (omega (arith, c.tick.ensures, c.in_ok-add_process.ensures.cost));
    }
