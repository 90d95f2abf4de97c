use Rattle.std.proofs.Common.{◌≡◌, map, take, ◌≤◌, ◌+◌, ◌*◌}
use Rattle.ppd_check.specs.Placed.{place_of}
use Rattle.ppd_check.proofs.places.places_of.Given as goal

-- the places of those before
abbrev pub invariant-loop-stmt : goal.invariant-loop-stmt
invariant-loop-stmt g l = record {
  places : l.places.items ≡ map place_of (take l.stmt-index l.stmts);
  cost : l.steps ≤ l.fn.steps + 2 * l.stmt-index;
}
