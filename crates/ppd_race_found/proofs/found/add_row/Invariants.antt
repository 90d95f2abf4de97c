use Rattle.std.proofs.Common.{ℕ, ◌≤◌, ◌+◌, take, ◌≡◌, length}
use Rattle.std.specs.List.{sum_by}
use Rattle.ppd_race_found.specs.Lists.{total}
use Rattle.ppd_race_found.specs.Search.{AreElsewhere, CanSearch, edge_cost, edge_least, found_with}
use Rattle.ppd_race_found.proofs.Grown.{GrownPast}
use Rattle.ppd_race_found.proofs.found.add_row.Given as goal

abbrev pub invariant-loop-b : goal.invariant-loop-b
invariant-loop-b g l = record {
  long : length l.found.items ≡ length l.fn.found.items;
  grown : (p : ℕ) → CanSearch l.graph p l.lists → AreElsewhere l.graph p l.row → GrownPast (λ m b. found_with l.graph l.lists b m) l.b-index l.row l.fn.found.items l.found.items;
  least : l.fn.steps + total l.found.items + sum_by edge_least (take l.b-index l.row) ≤ l.steps + total l.fn.found.items;
  spent : l.steps + total l.fn.found.items ≤ l.fn.steps + total l.found.items + sum_by edge_cost (take l.b-index l.row);
}
