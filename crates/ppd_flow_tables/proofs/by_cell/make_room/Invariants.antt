use Rattle.std.proofs.Common.{◌≡◌, ℕ, [], get_or, length}
use Rattle.ppd_flow_tables.proofs.by_cell.make_room.Given as goal

abbrev pub invariant-loop-place : goal.invariant-loop-place
invariant-loop-place l = record {
  long : length l.lists.items ≡ l._place;
  same : (c : ℕ) → get_or l.lists.items c [] ≡ get_or l.fn.lists.items c [];
}
