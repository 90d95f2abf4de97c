use Rattle.std.proofs.Common.{◌≤◌, ◌+◌, ◌-◌, [], get_or, take, ◌≡◌, length}
use Rattle.std.specs.List.{flat_map, range_with_len, sum_by}
use Rattle.ppd_race_found.specs.Lists.{GrowsBy, total}
use Rattle.ppd_race_found.specs.Search.{CanSearch, found_in, row_cost}
use Rattle.ppd_race.proofs.search.add_later.Given as goal

abbrev pub invariant-loop-q : goal.invariant-loop-q
invariant-loop-q g l = record {
  long : length l.found.items ≡ length l.fn.found.items;
  grown : CanSearch l.graph l.p l.lists → GrowsBy (λ m. flat_map (λ q. found_in l.graph l.lists (get_or l.rows q []) m) (range_with_len (l.p + 1) (l.q - (l.p + 1)))) l.fn.found.items l.found.items;
  least : l.fn.steps + total l.found.items + (l.q - (l.p + 1)) ≤ l.steps + total l.fn.found.items;
  spent : l.steps + total l.fn.found.items ≤ l.fn.steps + total l.found.items + sum_by row_cost (take l.q l.rows);
}
