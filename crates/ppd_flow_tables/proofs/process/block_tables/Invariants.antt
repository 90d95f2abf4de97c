use Rattle.std.proofs.Common.{◌≡◌, length}
use Rattle.ppd_flow_tables.specs.Tabled.{AreOfFirst}
use Rattle.ppd_flow_tables.proofs.process.block_tables.Given as goal

abbrev pub invariant-loop-i : goal.invariant-loop-i
invariant-loop-i l = record {
  all : AreOfFirst l.past l.process l.blocks;
  count : length l.blocks ≡ l.i;
}
