use Rattle.std.proofs.Common.{◌+◌, ◌*◌, ◌<◌, length, ap, arith, ◌∙◌}
use Rattle.std.specs.Prelude.{fold}
use Rattle.std.proofs.lemmas.List.{take_all}
use Rattle.ppd_model.specs.FullTrace as model
use Rattle.ppd_trace.specs.Runs.{tracer_of}
use Rattle.ppd_trace.specs.Spending.{most_statement_cells}
use Rattle.ppd_trace.proofs.Costs.{turn_ends, turn_on, turns_within}
use Rattle.ppd_trace.proofs.Processes.{few_on, own_on, traced_on}
use Rattle.ppd_trace.proofs.steps.trace_steps.Goals as goal

pub loop-taken-init : goal.loop-taken-init
loop-taken-init g c = record {
  traced = λ first e. e;
  own = c.requires.own;
  running = c.requires.running;
  few = c.requires.none;
  spent = omega arith;
}

pub loop-taken-preserved : goal.loop-taken-preserved
loop-taken-preserved g c =
    let program = c.args.subject.now.program.now in
    let plan = c.args.subject.now.plan.now in
    let story = c.args.subject.now.told.now.story in
    let p = c.args.subject.now.process in
    let own = c.args.own.now in
    let i = c.loop-taken.taken-index in
    let before = c.loop-taken.tracer in
    let now = c.trace_step.new.tracer in
    let inside : i < length own = omega arith in
    let e = c.in_ok-trace_step.ensures.ok in
    record {
      traced = λ first begun. traced_on program plan story p own i _ before now inside e first (c.loop-taken.invariant.traced first begun);
      own = own_on program plan story p own i _ before now inside e c.loop-taken.invariant.own;
      running = c.in_ok-trace_step.ensures.kept;
      few = few_on program plan story p own i _ before now inside e c.loop-taken.invariant.few;
      spent = turn_on _ (3 * most_statement_cells program + 12) i c.loop-taken.steps c.trace_step.new.steps c.loop-taken.invariant.spent (omega (arith, c.tick.ensures, c.in_ok-trace_step.ensures.cost));
    }

pub returns-in_err-trace_step-clause-cost : goal.returns-in_err-trace_step-clause-cost
returns-in_err-trace_step-clause-cost g c =
    turn_ends _ (3 * most_statement_cells c.args.subject.now.program.now + 12) c.loop-taken.taken-index (length c.args.own.now) c.loop-taken.steps c.trace_step.new.steps (omega arith)
    c.loop-taken.invariant.spent (omega (arith, c.tick.ensures, c.in_err-trace_step.ensures.cost))

pub returns-clause-traced : goal.returns-clause-traced
returns-clause-traced g c = λ first begun.
    c.loop-taken.invariant.traced first begun
    ∙ ap (λ l. tracer_of (fold (model.trace_step c.args.subject.now.program.now c.args.subject.now.plan.now c.args.subject.now.told.now.story c.args.subject.now.process) first l))
    (take_all c.loop-taken.taken-index c.args.own.now (omega arith))

pub returns-clause-cost : goal.returns-clause-cost
returns-clause-cost g c =
    turns_within _ (3 * most_statement_cells c.args.subject.now.program.now + 12) c.loop-taken.taken-index (length c.args.own.now) c.loop-taken.steps (omega arith) c.loop-taken.invariant.spent
