use Rattle.std.proofs.Common.{◌≡◌, ℕ, ◌<◌, ◌≤◌, ◌+◌, ◌++◌, [], drop, get_or, length, take}
use Rattle.std.specs.List.{sum_by}
use Rattle.ppd_ast.specs.Members.{has}
use Rattle.ppd_ast.specs.declared.limits.TheConstants.{MOST_SHARED_CELLS}
use Rattle.ppd_race.specs.ByCell.{accessors_from, listing_cost, listing_least}
use Rattle.ppd_race.proofs.by_cell.list_by_cell.Given as goal

abbrev pub invariant-loop-place : goal.invariant-loop-place
invariant-loop-place g l = record {
  long_readers : length l.lists.readers.items ≡ MOST_SHARED_CELLS;
  long_writers : length l.lists.writers.items ≡ MOST_SHARED_CELLS;
  readers : (c : ℕ) → c < MOST_SHARED_CELLS → get_or l.lists.readers.items c [] ++ accessors_from l.place (λ a. has a.reads c) (drop l.place l.own) ≡ accessors_from 0 (λ a. has a.reads c) l.own;
  writers : (c : ℕ) → c < MOST_SHARED_CELLS → get_or l.lists.writers.items c [] ++ accessors_from l.place (λ a. has a.writes c) (drop l.place l.own) ≡ accessors_from 0 (λ a. has a.writes c) l.own;
  least : l.fn.steps + 2048 + sum_by listing_least (take l.place l.own) ≤ l.steps;
  spent : l.steps ≤ l.fn.steps + 2048 + sum_by listing_cost (take l.place l.own);
}
