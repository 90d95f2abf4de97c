use Rattle.ppd_top_following.proofs.Followed.{fails_at, unfinished, comes_to, same_setting}
use Rattle.ppd_top_following.proofs.following.follow_world.Goals as goal

pub returns-in-Err-clause-error : goal.returns-in-Err-clause-error
returns-in-Err-clause-error c = fails_at c.args.program.now c.args.options.now c.args.world c.drive.new.self c.args.schedule.now c.in-Err.error c.drive_error.result c.requires.first c.requires.comes c.in-Err.ensures.driven c.drive_error.ensures

pub returns-in-Some-clause-error : goal.returns-in-Some-clause-error
returns-in-Some-clause-error c = unfinished c.args.program.now c.args.options.now c.args.world c.drive.new.self c.requires.first c.requires.comes c.args.schedule.now c.in-Ok.ensures.driven c.in-Some._process c.in-Some.ensures.some.can

pub close_world-requires-clause-comes : goal.close_world-requires-clause-comes
close_world-requires-clause-comes c = comes_to c.args.program.now c.args.options.now c.args.world c.drive.new.self c.requires.first c.requires.comes c.args.schedule.now c.in-Ok.ensures.driven

pub close_world-requires-clause-setting : goal.close_world-requires-clause-setting
close_world-requires-clause-setting c = same_setting c.args.program.now c.args.options.now c.args.world c.drive.new.self c.requires.first c.requires.comes c.args.schedule.now c.in-Ok.ensures.driven
