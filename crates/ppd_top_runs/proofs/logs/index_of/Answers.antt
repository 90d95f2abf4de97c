use Rattle.ppd_top_runs.specs.Runs.{run_setting}
use Rattle.ppd_top_runs.proofs.ToldRuns.Told.{never_unindexed, told_lists}
use Rattle.ppd_top_runs.proofs.logs.index_of.Goals as goal

pub why_no_index-requires : goal.why_no_index-requires
why_no_index-requires c = never_unindexed (run_setting c.args.run.now) c.args.run.now.closed c.requires c.in-Err.bad (c.in-Err.ensures.refused)

pub index-requires : goal.index-requires
index-requires c = record { processes = told_lists (run_setting c.args.run.now) c.args.run.now.closed c.requires }
