use Rattle.std.proofs.Common.{◌≤◌, ◌+◌}
use Rattle.ppd_race_found.specs.Lists.{total}
use Rattle.ppd_race_found.specs.Search.{picked}
use Rattle.ppd_race_found.proofs.Grown.{GrownPast}
use Rattle.ppd_race_found.proofs.found.add_against.Given as goal

abbrev pub invariant-loop-one : goal.invariant-loop-one
invariant-loop-one g l = record {
  grown : GrownPast (λ m a. picked m l.against a) l.one-index l.apart l.fn.found.items l.found.items;
  least : l.fn.steps + total l.found.items ≤ l.steps + total l.fn.found.items;
  spent : l.steps + total l.fn.found.items ≤ l.fn.steps + total l.found.items + 128;
}
