use Rattle.std.proofs.Common.{◌≡◌}
use Rattle.ppd_ast.specs.Members.{with_cell}
use Rattle.ppd_world_steps.proofs.Accessed.{passed}
use Rattle.ppd_world_steps.proofs.note.missing_at.Given as goal

abbrev pub invariant-loop-index : goal.invariant-loop-index
invariant-loop-index l = with_cell l.cell l.cells ≡ passed l.cells l.cell l.index
