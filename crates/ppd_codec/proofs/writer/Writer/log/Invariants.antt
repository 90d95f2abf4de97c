use Rattle.std.proofs.Common.{◌≡◌, ◌+◌, ◌≤◌, ◌++◌, length, take}
use Rattle.std.specs.List.{flat_map}
use Rattle.ppd_codec.specs.declared.facts.Facts.{Facts}
use Rattle.ppd_codec.specs.Format.{an_entry}
use Rattle.ppd_codec.proofs.writer.Writer.log.Given as goal

abbrev pub invariant-loop-entry : goal.invariant-loop-entry
invariant-loop-entry g l = record {
  bytes : (f : Facts) → l.self.out.items ≡ l.initial.self.out.items ++ flat_map (an_entry f).bytes (take l.entry-index l.entries);
  cost : l.steps + length l.initial.self.out.items ≤ l.initial.steps + length l.self.out.items;
}
