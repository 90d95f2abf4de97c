use Rattle.ppd_flow_tables.specs.Tables.{ends_there}
use Rattle.ppd_flow_tables.proofs.Marked.{AreUpTo}
use Rattle.ppd_flow_tables.proofs.counts.ends_of.Given as goal

abbrev pub invariant-loop-place : goal.invariant-loop-place
invariant-loop-place l = AreUpTo (ends_there l.entries) l.place l.keys
