use Rattle.std.specs.Int.{w16}
use Rattle.ppd_codec.specs.Form.{number}
use Rattle.std.proofs.Common.{◌≡◌, ◌+◌, ◌≤◌, ◌++◌, length, take}
use Rattle.std.specs.List.{flat_map}
use Rattle.ppd_codec.proofs.writer.Writer.cells.Given as goal

abbrev pub invariant-loop-cell : goal.invariant-loop-cell
invariant-loop-cell g l = record {
  bytes : l.self.out.items ≡ l.initial.self.out.items ++ flat_map (number w16).bytes (take l.cell-index l.cells);
  cost : l.steps + length l.initial.self.out.items ≤ l.initial.steps + length l.self.out.items;
}
