use Rattle.std.proofs.Common.{◌≡◌, ◌++◌, map}
use Rattle.std.specs.List.{range_with_len}
use Rattle.ppd_whole_origins.proofs.jobs.add_jobs.Given as goal

abbrev pub invariant-loop-interval : goal.invariant-loop-interval
invariant-loop-interval l = l.jobs.items ≡ l.fn.jobs.items ++ map (λ k. (l.process, k)) (range_with_len 0 l.interval)
