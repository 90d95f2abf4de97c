use Rattle.std.proofs.Common.{ap, sym}
use Rattle.ppd_ast.proofs.Walks.{got_none, got_some}
use Rattle.ppd_index.specs.Tables.{block_in}
use Rattle.ppd_index.proofs.table.block_at.Goals as goal

pub returns-in-None : goal.returns-in-None
returns-in-None c = sym (ap block_in (got_none _ _ c.in-None.ensures.lookup.3))

pub returns-in-Some : goal.returns-in-Some
returns-in-Some c = sym (ap block_in (got_some _ _ _ c.in-Some.ensures.lookup.3.0 c.in-Some.ensures.lookup.1))
