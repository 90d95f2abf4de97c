use Rattle.std.proofs.Common.{◌≡◌, ◌+◌, drop}
use Rattle.ppd_race.specs.Union.{do_rise}
use Rattle.ppd_race.proofs.union.do_rise.Given as goal

abbrev pub invariant-loop-cell : goal.invariant-loop-cell
invariant-loop-cell g l = record {
  rest : do_rise l.next (drop l.cell-index l.cells) ≡ do_rise 0 l.cells;
  spent : l.steps ≡ l.fn.steps + l.cell-index;
}
