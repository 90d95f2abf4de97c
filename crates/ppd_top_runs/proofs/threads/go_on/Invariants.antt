use Rattle.std.proofs.Common.{◌-◌}
use Rattle.ppd_book.specs.declared.view.TheConstants.{MOST_VIEW_STEPS}
use Rattle.ppd_top_runs.proofs.threads.go_on.Given as goal

abbrev pub decreases-loop-view : goal.decreases-loop-view
decreases-loop-view g l = MOST_VIEW_STEPS - l.view.count
