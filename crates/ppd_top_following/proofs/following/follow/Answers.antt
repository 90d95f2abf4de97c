use Rattle.ppd_top_following.proofs.Told.{follows_ok}
use Rattle.ppd_top_following.proofs.following.follow.Goals as goal

pub returns-in-Ok-clause-text : goal.returns-in-Ok-clause-text
returns-in-Ok-clause-text g c =
    follows_ok c.args.source.now c.args.options.now c.args.commands.now c.args.schedule.now c.in-Ok.program c.follow_program.result (λ text. text.items) c.in-Ok.ensures.read c.follow_program.ensures.text
