use Rattle.std.proofs.Common.{◌≡◌, ◌+◌, ◌≤◌, ◌++◌, length, take}
use Rattle.std.specs.List.{flat_map}
use Rattle.ppd_codec.specs.Form.{value}
use Rattle.ppd_codec.proofs.writer.Writer.values.Given as goal

abbrev pub invariant-loop-value : goal.invariant-loop-value
invariant-loop-value g l = record {
  bytes : l.self.out.items ≡ l.initial.self.out.items ++ flat_map value.bytes (take l.value-index l.values);
  cost : l.steps + length l.initial.self.out.items ≤ l.initial.steps + length l.self.out.items;
}
