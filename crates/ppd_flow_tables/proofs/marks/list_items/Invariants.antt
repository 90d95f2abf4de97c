use Rattle.ppd_flow_tables.specs.Tables.{is_marked}
use Rattle.ppd_flow_tables.proofs.Marked.{AreUpTo}
use Rattle.ppd_flow_tables.proofs.marks.list_items.Given as goal

abbrev pub invariant-loop-place : goal.invariant-loop-place
invariant-loop-place l = AreUpTo (is_marked l.mark l.edges l.items) l.place l.keys
