use Rattle.ppd_model.specs.Setting.{Setting, setting_of}
use Rattle.std.proofs.Common.{◌≡◌, ◌+◌, ◌*◌, ◌<◌, length, get_or, ap, rules, subst, sym, arith}
use Rattle.ppd_sem.proofs.Validity.{valid-numbered, valid-runnable}
use Rattle.ppd_trace.specs.Spending.{most_statement_cells}
use Rattle.ppd_trace.specs.Traced.{IsTraceable}
use Rattle.ppd_trace.proofs.Costs.{process_ends, process_on, processes_within}
use Rattle.ppd_trace.proofs.Traced.{one_traced}
use Rattle.ppd_trace.proofs.whole.trace_all.Goals as goal

pub trace_process-requires-clause-program : goal.trace_process-requires-clause-program
trace_process-requires-clause-program g c = valid-runnable c.setting.inside.program.now c.setting.invariant.program

pub trace_process-requires-clause-plan : goal.trace_process-requires-clause-plan
trace_process-requires-clause-plan g c = valid-numbered c.setting.inside.program.now c.setting.inside.plan.now c.setting.invariant.program c.setting.invariant.plan

pub loop-process-preserved : goal.loop-process-preserved
loop-process-preserved g c =
    let p = c.setting.inside.program.now in
    let s = c.args.told.now.story in
    let i = c.loop-process.process in
    let own = c.as_slice-own.result.now in
    let story : IsTraceable (setting_of p c.setting.inside.plan.now c.setting.inside.budget) s = subst (λ (v : Setting). IsTraceable v s) (sym c.setting.view_is) c.requires.story in
    let inside : i < length s.steps = omega (arith, ap length c.as_slice-lists.ensures) in
    let is : own ≡ get_or s.steps i own = search rules in
    let there : p.functions + i < length p.bodies = omega (arith, story.processes) in
    record {
      traced = one_traced (setting_of p c.setting.inside.plan.now c.setting.inside.budget) s i own c.loop-process.events c.push.new.self c.in_ok-traced.traced _ inside is c.in_ok-traced.ensures.events c.in_ok-push.ensures.ok c.loop-process.invariant.traced;
      spent = process_on p s (3 * most_statement_cells p + 12) c.args.steps.now i own c.loop-process.steps c.tick-in-loop-process.new.self inside is there c.loop-process.invariant.spent
          (omega (arith, c.tick.ensures, c.in_ok-traced.ensures.cost, c.tick-in-loop-process.ensures));
    }

pub returns-in_err-traced-clause-cost : goal.returns-in_err-traced-clause-cost
returns-in_err-traced-clause-cost g c =
    let p = c.setting.inside.program.now in
    let own = c.as_slice-own.result.now in
    let story : IsTraceable (setting_of p c.setting.inside.plan.now c.setting.inside.budget) c.args.told.now.story = subst (λ (v : Setting). IsTraceable v c.args.told.now.story) (sym c.setting.view_is) c.requires.story in
    let is : own ≡ get_or c.args.told.now.story.steps c.loop-process.process own = search rules in
    rw (← c.setting.view_is) (process_ends p c.args.told.now.story (3 * most_statement_cells p + 12) c.args.steps.now c.loop-process.process own c.loop-process.steps c.trace_process.new.steps
    (omega (arith, ap length c.as_slice-lists.ensures)) is (omega (arith, story.processes, ap length c.as_slice-lists.ensures)) c.loop-process.invariant.spent
    (omega (arith, c.tick.ensures, c.in_err-traced.ensures.cost)))

pub returns-in_err-push-clause-cost : goal.returns-in_err-push-clause-cost
returns-in_err-push-clause-cost g c =
    let p = c.setting.inside.program.now in
    let own = c.as_slice-own.result.now in
    let story : IsTraceable (setting_of p c.setting.inside.plan.now c.setting.inside.budget) c.args.told.now.story = subst (λ (v : Setting). IsTraceable v c.args.told.now.story) (sym c.setting.view_is) c.requires.story in
    let is : own ≡ get_or c.args.told.now.story.steps c.loop-process.process own = search rules in
    rw (← c.setting.view_is) (process_ends p c.args.told.now.story (3 * most_statement_cells p + 12) c.args.steps.now c.loop-process.process own c.loop-process.steps c.tick-in-loop-process.new.self
    (omega (arith, ap length c.as_slice-lists.ensures)) is (omega (arith, story.processes, ap length c.as_slice-lists.ensures)) c.loop-process.invariant.spent
    (omega (arith, c.tick.ensures, c.in_ok-traced.ensures.cost, c.tick-in-loop-process.ensures)))

pub loop-process-init : goal.loop-process-init
loop-process-init g c = record { traced = search rules; spent = omega arith }

pub returns-clause-cost : goal.returns-clause-cost
returns-clause-cost g c =
    let p = c.setting.inside.program.now in
    let story : IsTraceable (setting_of p c.setting.inside.plan.now c.setting.inside.budget) c.args.told.now.story = subst (λ (v : Setting). IsTraceable v c.args.told.now.story) (sym c.setting.view_is) c.requires.story in
    rw (← c.setting.view_is) (processes_within p c.args.told.now.story (3 * most_statement_cells p + 12) c.args.steps.now c.loop-process.process c.loop-process.steps
    (omega (arith, story.processes, ap length c.as_slice-lists.ensures)) c.loop-process.invariant.spent)
