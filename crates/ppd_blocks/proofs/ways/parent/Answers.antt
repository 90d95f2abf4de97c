use Rattle.std.proofs.Common.{ap, sym}
use Rattle.std.specs.Prelude.{option_and_then}
use Rattle.ppd_ast.proofs.Walks.{got_none, got_some}
use Rattle.ppd_ast.specs.declared.program.Stmt.{Stmt}
use Rattle.ppd_blocks.proofs.ways.parent.Goals as goal

pub returns-in-None : goal.returns-in-None
returns-in-None c = sym (ap (option_and_then (λ (x : Stmt). x.parent)) (got_none _ _ c.in-None.ensures.lookup.3))

pub returns-in-Some : goal.returns-in-Some
returns-in-Some c = sym (ap (option_and_then (λ (x : Stmt). x.parent)) (got_some _ _ _ c.in-Some.ensures.lookup.3.0 c.in-Some.ensures.lookup.1))
