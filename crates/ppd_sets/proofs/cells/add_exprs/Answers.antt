use Rattle.ppd_ast.specs.Term.{term}
use Rattle.ppd_sets.specs.Named.{cells_in}
use Rattle.ppd_sets.proofs.Gaining.{gains_none, gains_more}
use Rattle.ppd_sets.proofs.cells.add_exprs.Goals as goal

pub loop-number-init : goal.loop-number-init
loop-number-init c = gains_none c.args.cells.now

pub loop-number-preserved : goal.loop-number-preserved
loop-number-preserved c = gains_more (λ e. cells_in c.args.wants_shared (term c.args.exprs.now e)) c.args.numbers.now c.loop-number.number-index 0 c.loop-number-test.true c.loop-number.invariant c.add_expr.ensures
