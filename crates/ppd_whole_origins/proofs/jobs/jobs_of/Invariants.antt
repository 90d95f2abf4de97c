use Rattle.std.proofs.Common.{◌≡◌, ◌++◌, drop}
use Rattle.ppd_flow_shared.specs.SharedCells.{seens_in}
use Rattle.ppd_whole_origins.specs.Intervals.{all_intervals, intervals_from}
use Rattle.ppd_whole_origins.proofs.jobs.jobs_of.Given as goal

abbrev pub invariant-loop-p : goal.invariant-loop-p
invariant-loop-p l = l.jobs.items ++ intervals_from l.p (drop l.p (seens_in l.past)) ≡ all_intervals l.past
