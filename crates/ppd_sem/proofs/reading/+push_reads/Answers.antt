use Rattle.std.proofs.Common.{◌<◌, length, sym, arith}
use Rattle.ppd_ast.specs.Term.{term, terms}
use Rattle.ppd_sem.specs.Within.{IsWithin}
use Rattle.ppd_sem.proofs.Asks.{cells_below, first_below, first_within, second_below, second_within}
use Rattle.ppd_sem.proofs.reading.+push_reads.Goals as goal

pub push_leaf-requires : goal.push_leaf-requires
push_leaf-requires t c =
    cells_below (terms c.args.exprs.now) (length c.args.cells.now) c.expr_at-expr.result (c.expr_at-expr.ensures.within (length c.args.cells.now) c.requires.within)

pub push_reads-requires : goal.push_reads-requires
push_reads-requires t c =
    let below : c.in-Some.first < c.args.at = first_below c.args.at c.expr_at-expr.result c.in-Some.first c.expr_at-expr.ensures.below (sym c.in-Some.ensures) in
    let there : c.args.at < length c.args.exprs.now = c.requires.at_in in
    let within : IsWithin (length c.args.cells.now) (term c.args.exprs.now c.in-Some.first) =
    first_within (terms c.args.exprs.now) (length c.args.cells.now) c.expr_at-expr.result c.in-Some.first (c.expr_at-expr.ensures.within (length c.args.cells.now) c.requires.within) (sym c.in-Some.ensures) in
    (omega (arith, c.decreases), (c.requires.children, (omega arith, (within, c.requires.limit))))

pub ask-requires-clause-at_in : goal.ask-requires-clause-at_in
ask-requires-clause-at_in t c =
    let below : c.in-Some.first < c.args.at = first_below c.args.at c.expr_at-expr.result c.in-Some.first c.expr_at-expr.ensures.below (sym c.in-Some.ensures) in
    let there : c.args.at < length c.args.exprs.now = c.requires.at_in in
    omega arith

pub ask-requires-clause-within : goal.ask-requires-clause-within
ask-requires-clause-within t c =
    first_within (terms c.args.exprs.now) (length c.args.cells.now) c.expr_at-expr.result c.in-Some.first (c.expr_at-expr.ensures.within (length c.args.cells.now) c.requires.within) (sym c.in-Some.ensures)

pub push_reads-requires-in-Some-second_operand : goal.push_reads-requires-in-Some-second_operand
push_reads-requires-in-Some-second_operand t c =
    let below : c.in-Some-second_operand.second < c.args.at = second_below c.args.at c.expr_at-expr.result _ c.in-Some-second_operand.second c.expr_at-expr.ensures.below (sym c.in-Some-second_operand.ensures) in
    let there : c.args.at < length c.args.exprs.now = c.requires.at_in in
    let within : IsWithin (length c.args.cells.now) (term c.args.exprs.now c.in-Some-second_operand.second) =
    second_within (terms c.args.exprs.now) (length c.args.cells.now) c.expr_at-expr.result _ c.in-Some-second_operand.second (c.expr_at-expr.ensures.within (length c.args.cells.now) c.requires.within) (sym c.in-Some-second_operand.ensures) in
    (omega (arith, c.decreases), (c.requires.children, (omega arith, (within, c.requires.limit))))

pub push_element-requires-clause-cells : goal.push_element-requires-clause-cells
push_element-requires-clause-cells t c =
    cells_below (terms c.args.exprs.now) (length c.args.cells.now) c.expr_at-expr.result (c.expr_at-expr.ensures.within (length c.args.cells.now) c.requires.within)
