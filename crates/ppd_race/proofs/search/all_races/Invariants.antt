use Rattle.std.proofs.Common.{◌≡◌, ◌≤◌, ◌+◌, ◌*◌, length, take}
use Rattle.std.specs.List.{flat_map, range_with_len, sum_by}
use Rattle.ppd_race.specs.Busy.{races_from}
use Rattle.ppd_race_found.specs.Search.{IsRising, row_cost}
use Rattle.ppd_race.specs.ByCell.{own_cost}
use Rattle.ppd_race.proofs.search.all_races.Given as goal

abbrev pub invariant-loop-p : goal.invariant-loop-p
invariant-loop-p g l = record {
  found : IsRising l.graph → l.races ≡ flat_map (races_from l.graph l.rows) (range_with_len 0 l.p);
  least : l.fn.steps + 2049 * l.p + length l.races ≤ l.steps;
  spent : l.steps ≤ l.fn.steps + l.p * (2049 + sum_by row_cost l.rows) + sum_by own_cost (take l.p l.rows) + length l.races;
}
