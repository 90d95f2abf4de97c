use Rattle.ppd_model.specs.Setting.{setting_of}
use Rattle.std.proofs.Common.{◌≤◌, length, subst, sym}
use Rattle.ppd_model.specs.declared.tracing.Story.{Story}
use Rattle.ppd_trace.specs.Spending.{most_statement_cells, steps_in}
use Rattle.ppd_trace.proofs.Costs.{whole_cost}
use Rattle.ppd_trace.proofs.Spent.{steps_within}
use Rattle.ppd_trace.proofs.whole.full_trace_in.Goals as goal

pub returns-clause-cost : goal.returns-clause-cost
returns-clause-cost g c =
    let p = c.args.setting.now.program in
    let few : steps_in c.in_ok-story.story ≤ length c.args.schedule.now =
    subst (λ (s : Story). steps_in s ≤ length c.args.schedule.now) (sym c.in_ok-story.ensures.story.1) (steps_within (setting_of p c.args.setting.now.plan c.args.setting.now.budget) c.args.schedule.now) in
    whole_cost p c.in_ok-story.story (most_statement_cells p) (length c.args.schedule.now) c.args.steps.now c.tell_story_in.new.steps c.trace_story.new.steps few c.in_ok-story.ensures.cost c.in_ok-trace_story.ensures.cost

pub returns-in_err-trace_story-clause-cost : goal.returns-in_err-trace_story-clause-cost
returns-in_err-trace_story-clause-cost g c =
    let p = c.args.setting.now.program in
    let few : steps_in c.in_ok-story.story ≤ length c.args.schedule.now =
    subst (λ (s : Story). steps_in s ≤ length c.args.schedule.now) (sym c.in_ok-story.ensures.story.1) (steps_within (setting_of p c.args.setting.now.plan c.args.setting.now.budget) c.args.schedule.now) in
    whole_cost p c.in_ok-story.story (most_statement_cells p) (length c.args.schedule.now) c.args.steps.now c.tell_story_in.new.steps c.trace_story.new.steps few c.in_ok-story.ensures.cost c.in_err-trace_story.ensures.cost
