use Rattle.std.proofs.Common.{take}
use Rattle.std.specs.List.{flat_map}
use Rattle.ppd_ast.specs.Term.{term}
use Rattle.ppd_sets.specs.Named.{cells_in}
use Rattle.ppd_sets.specs.Gained.{Gains}
use Rattle.ppd_sets.proofs.cells.add_exprs.Given as goal

abbrev pub invariant-loop-number : goal.invariant-loop-number
invariant-loop-number l = Gains l.fn.cells l.cells (flat_map (λ e. cells_in l.wants_shared (term l.exprs e)) (take l.number-index l.numbers))
