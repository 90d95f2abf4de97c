use Rattle.std.proofs.Common.{◌≡◌, ◌+◌, drop}
use Rattle.ppd_index.specs.Tables.{open_rows}
use Rattle.ppd_index.proofs.table.open_all.Given as goal

abbrev pub invariant-loop-place : goal.invariant-loop-place
invariant-loop-place g l = record {
  rows : open_rows l.last (drop l.place l.running) l.rows.items ≡ open_rows l.last l.running l.initial.rows.items;
  spent : l.steps ≡ l.fn.steps + l.place;
}
