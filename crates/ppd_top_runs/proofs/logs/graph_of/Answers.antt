use Rattle.ppd_top_runs.specs.Runs.{run_setting}
use Rattle.ppd_top_runs.proofs.ToldRuns.Told.{never_without_graph, told_lists}
use Rattle.ppd_top_runs.proofs.logs.graph_of.Goals as goal

pub why_no_graph-requires : goal.why_no_graph-requires
why_no_graph-requires c = never_without_graph (run_setting c.args.run.now) c.args.run.now.closed c.requires c.in-Err.bad (c.in-Err.ensures.refused)

pub graph-requires-clause-processes : goal.graph-requires-clause-processes
graph-requires-clause-processes c = told_lists (run_setting c.args.run.now) c.args.run.now.closed c.requires
