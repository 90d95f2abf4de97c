use Rattle.std.proofs.Common.{◌≡◌, ◌+◌, ◌++◌, length, map, vec_len}
use Rattle.ppd_model.specs.Logs.{closed_log, ends_from}
use Rattle.ppd_world.proofs.closing.close_all.Given as goal

abbrev pub invariant-loop-alloc : goal.invariant-loop-alloc
invariant-loop-alloc l = record {
  logs : l.lists ++ map closed_log l.loggings.items ≡ map closed_log l.initial.loggings.items;
  ends : l.ends ++ ends_from l.program l.body l.loggings.items ≡ ends_from l.program l.program.functions l.initial.loggings.items;
  count : l.body + length l.loggings.items ≡ l.program.functions + length l.initial.loggings.items;
}

abbrev pub decreases-loop-alloc : goal.decreases-loop-alloc
decreases-loop-alloc l = vec_len l.loggings
