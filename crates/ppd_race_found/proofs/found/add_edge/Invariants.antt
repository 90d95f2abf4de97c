use Rattle.std.proofs.Common.{ℕ, ◌≤◌, ◌+◌, ◌*◌, ◌≡◌, length}
use Rattle.ppd_race_found.specs.Lists.{total}
use Rattle.ppd_race_found.specs.Search.{CanSearch, IsElsewhere, found_over}
use Rattle.ppd_race_found.proofs.Grown.{GrownPast}
use Rattle.ppd_race_found.proofs.found.add_edge.Given as goal

abbrev pub invariant-loop-cell : goal.invariant-loop-cell
invariant-loop-cell g l = record {
  long : length l.found.items ≡ length l.fn.found.items;
  grown : (p : ℕ) → CanSearch l.graph p l.lists → IsElsewhere l.graph p l.b.edge → GrownPast (λ m c. found_over l.graph l.lists l.b c m) l.cell-index l.cells l.fn.found.items l.found.items;
  least : l.fn.steps + total l.found.items + l.cell-index ≤ l.steps + total l.fn.found.items;
  spent : l.steps + total l.fn.found.items ≤ l.fn.steps + total l.found.items + 385 * l.cell-index;
}
