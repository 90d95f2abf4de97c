use Rattle.std.proofs.lemmas.Grind.{common_steps}
use Rattle.ppd_top_runs.specs.Runs.{run_setting}
use Rattle.std.proofs.Common.{[], rules, arith}
use Rattle.ppd_codec_runs.specs.Pasts.{BelongTogether}
use Rattle.ppd_top_commands.proofs.Conversing.{nothing_yet}
use Rattle.ppd_top_commands.proofs.Pasts.{together}
use Rattle.ppd_top_runs.proofs.ToldRuns.Told.{told_ends}
use Rattle.ppd_top_commands.proofs.telling.tell_by.Goals as goal

pub returns-in_default : goal.returns-in_default
returns-in_default g c = nothing_yet _ _ _

pub new-requires-clause-past : goal.new-requires-clause-past
new-requires-clause-past g c =
    let t : BelongTogether (run_setting c.args.run.now) c.args.run.now.closed.logs c.args.tables.now.index c.args.tables.now.graph c.args.run.now.closed.logs c.args.tables.now.index [] =
    together (run_setting c.args.run.now) c.args.run.now.closed c.args.tables.now.index c.args.tables.now.graph c.requires.told c.requires.index c.requires.fitting c.requires.graph in
    search rules

pub tell_session-status-requires-clause-few : goal.tell_session-status-requires-clause-few
tell_session-status-requires-clause-few g c = told_ends (run_setting c.args.run.now) c.args.run.now.closed c.requires.told

pub new-requires-clause-uncut : goal.new-requires-clause-uncut
new-requires-clause-uncut g c = search rules depth 1 fits 30

pub returns : goal.returns
returns g c = grind (arith, common_steps) steps 250000

pub tell_session-status-requires-clause-program : goal.tell_session-status-requires-clause-program
tell_session-status-requires-clause-program g c = grind (arith, common_steps) steps 250000
