use Rattle.std.proofs.Common.{◌≡◌, drop}
use Rattle.ppd_text.specs.CellNames.{cell_text}
use Rattle.ppd_text.proofs.cell_names.put_cell.Given as goal

abbrev pub invariant-loop-var : goal.invariant-loop-var
invariant-loop-var l = record {
  same : l.text.items ≡ l.initial.text.items;
  rest : cell_text (drop l.var-index l.vars) l.cell ≡ cell_text l.vars l.cell;
}
