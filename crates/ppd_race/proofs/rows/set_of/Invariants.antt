use Rattle.std.proofs.Common.{◌≡◌, ℕ, ◌<◌, ◌+◌, drop}
use Rattle.std.specs.Prelude.{◌||◌}
use Rattle.ppd_ast.specs.Members.{has, AreBelow}
use Rattle.ppd_ast.specs.declared.limits.TheConstants.{MOST_SHARED_CELLS}
use Rattle.ppd_race.proofs.rows.set_of.Given as goal

abbrev pub invariant-loop-cell : goal.invariant-loop-cell
invariant-loop-cell g l = record {
  holds : (c : ℕ) → c < MOST_SHARED_CELLS → (has l.set c || has (drop l.cell-index l.cells) c) ≡ has l.cells c;
  below : AreBelow MOST_SHARED_CELLS l.set;
  spent : l.steps ≡ l.fn.steps + l.cell-index;
}
