use Rattle.ppd_top_following.proofs.Told.{fails_err, ran_ok}
use Rattle.ppd_top_following.proofs.following.follow_program.Goals as goal

pub returns-clause-text : goal.returns-clause-text
returns-clause-text g c =
    ran_ok c.args.program.now c.args.options.now c.args.commands.now c.args.schedule.now c.in_ok-plan.plan c.in_ok-closed.closed c.requires.program c.in_ok-plan.ensures.plan c.in_ok-closed.ensures.closed c.tell_all.result (λ text. text.items) c.tell_all.ensures.text

pub returns-clause-error : goal.returns-clause-error
returns-clause-error g c =
    fails_err c.args.program.now c.args.options.now c.args.commands.now c.args.schedule.now c.in_ok-plan.plan c.in_ok-closed.closed c.requires.program c.in_ok-plan.ensures.plan c.in_ok-closed.ensures.closed c.tell_all.result c.tell_all.ensures.error
