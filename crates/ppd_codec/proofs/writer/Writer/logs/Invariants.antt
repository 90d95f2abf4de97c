use Rattle.std.proofs.Common.{◌≡◌, ◌+◌, ◌≤◌, ◌++◌, length, take}
use Rattle.std.specs.List.{flat_map}
use Rattle.ppd_codec.specs.declared.facts.Facts.{Facts}
use Rattle.ppd_codec.specs.Format.{log}
use Rattle.ppd_codec.proofs.writer.Writer.logs.Given as goal

abbrev pub invariant-loop-log : goal.invariant-loop-log
invariant-loop-log g l = record {
  bytes : (f : Facts) → l.self.out.items ≡ l.initial.self.out.items ++ flat_map (log f).bytes (take l.log-index l.logs);
  cost : l.steps + length l.initial.self.out.items ≤ l.initial.steps + length l.self.out.items;
}
