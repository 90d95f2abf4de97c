use Rattle.std.proofs.Common.{subst, length, Option, ℕ}
use Rattle.std.specs.Prelude.{option_to_list}
use Rattle.ppd_ast.specs.Members.{AreBelow}
use Rattle.ppd_blocks.proofs.cells.cells_of.Goals as goal

pub cells_from-requires-in-Some-clause-starts : goal.cells_from-requires-in-Some-clause-starts
cells_from-requires-in-Some-clause-starts c = subst (λ (o : Option ℕ). AreBelow (length c.args.program.now.stmts) (option_to_list o)) c.in-Some.is c.requires.begin
