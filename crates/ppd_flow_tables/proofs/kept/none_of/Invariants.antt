use Rattle.ppd_flow_tables.specs.Tabled.{AreOfProcesses}
use Rattle.ppd_flow_tables.proofs.kept.none_of.Given as goal

abbrev pub invariant-loop-process : goal.invariant-loop-process
invariant-loop-process l = AreOfProcesses l.past l.processes
