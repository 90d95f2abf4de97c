use Rattle.std.proofs.Common.{◌≡◌, ◌+◌, ◌*◌, ◌≤◌, drop, false}
use Rattle.std.specs.Prelude.{fold}
use Rattle.ppd_index.specs.Spending.{still_open}
use Rattle.ppd_index.specs.Tables.{begun_table, table_step, tabled}
use Rattle.ppd_index.proofs.Found.{first_by}
use Rattle.ppd_index.proofs.build.take_all.Given as goal

abbrev pub invariant-loop-i : goal.invariant-loop-i
invariant-loop-i g l = record {
  rows : fold (table_step l.plan) (tabled l.i l.table) (drop l.i l.entries) ≡ fold (table_step l.plan) begun_table l.entries;
  found : first_by l.plan l.owner.body l.owner.process (tabled l.i l.table) l.ended (drop l.i l.entries) ≡ first_by l.plan l.owner.body l.owner.process begun_table false l.entries;
  least : l.fn.steps + l.i ≤ l.steps;
  spent : l.steps + still_open l.ended l.table.running ≤ l.fn.steps + 2 * l.i;
}
