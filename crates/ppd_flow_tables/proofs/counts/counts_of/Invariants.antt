use Rattle.ppd_flow_tables.proofs.Collected.{AreCounted}
use Rattle.ppd_flow_tables.proofs.counts.counts_of.Given as goal

abbrev pub invariant-loop-entry : goal.invariant-loop-entry
invariant-loop-entry l = AreCounted l.entries l.entry-index l.count l.counts
