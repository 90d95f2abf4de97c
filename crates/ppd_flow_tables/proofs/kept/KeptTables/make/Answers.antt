use Rattle.std.proofs.Common.{subst, sym}
use Rattle.ppd_flow_tables.specs.Tabled.{AreOfProcesses}
use Rattle.ppd_flow_tables.proofs.Tabled.{first_kept, process_more}
use Rattle.ppd_flow_tables.proofs.kept.KeptTables.make.Goals as goal

pub new-requires-clause-rows : goal.new-requires-clause-rows
new-requires-clause-rows c =
    first_kept c.args.past.now c.args.process c.args.kept.now c.rows_of.result.now c.rows_of.ensures c.requires.kept

pub returns-in_err-tables : goal.returns-in_err-tables
returns-in_err-tables c = c.requires.tables

pub returns : goal.returns
returns c = record {
  processes =
      subst (AreOfProcesses c.args.past.now) (sym c.set.ensures)
      (process_more c.args.past.now c.args.process c.args.self.now.processes c.in_ok-tables.tables
      c.requires.tables.processes c.in_ok-tables.ensures);
  writing = c.requires.tables.writing;
}
