use Rattle.std.proofs.Common.{subst, sym}
use Rattle.ppd_flow_tables.specs.Tabled.{AreOfProcesses}
use Rattle.ppd_flow_tables.proofs.kept.KeptTables.tables.Goals as goal

pub returns : goal.returns
returns c = λ past all. (subst (AreOfProcesses past) (sym c.as_slice.ensures) all.processes, all.writing)
