use Rattle.std.proofs.Common.{◌≡◌, ◌∙◌, sym, ap, false, List, Some, None}
use Rattle.std.specs.Prelude.{slice_get}
use Rattle.ppd_ast.specs.declared.program.Stmt.{Stmt}
use Rattle.ppd_ast.proofs.Walks.{got_some, got_none}
use Rattle.ppd_sets.proofs.Inside.{nothing_deep, nothing_there, with_inside, list_more}
use Rattle.ppd_sets.proofs.loops.+within.Goals as goal

pub add_within-loop-number-preserved : goal.add_within-loop-number-preserved
add_within-loop-number-preserved t c = list_more c.args.program.now false c.args.depth c.args.list.now c.loop-number.number-index c.loop-number-test.true c.loop-number.invariant c.add_stmt.ensures

pub add_stmt-returns-then-depth-eq0 : goal.add_stmt-returns-then-depth-eq0
add_stmt-returns-then-depth-eq0 t c = nothing_deep c.args.program.now c.args.touched.now false c.args.depth c.args.number c.if-depth-eq0.true

pub add_stmt-returns-in-None : goal.add_stmt-returns-in-None
add_stmt-returns-in-None t c =
    let none : slice_get c.as_slice.result.now c.args.number ≡ None = got_none _ _ c.in-None.ensures.lookup.3 in
    nothing_there c.args.program.now c.args.touched.now false c.args.depth c.args.number c.if-depth-eq0.false (ap (λ (xs : List Stmt). slice_get xs c.args.number) (sym c.as_slice.ensures) ∙ none)

pub add_stmt-returns-in-Some : goal.add_stmt-returns-in-Some
add_stmt-returns-in-Some t c =
    let is : slice_get c.as_slice.result.now c.args.number ≡ Some c.in-Some.stmt.now = got_some _ _ _ c.in-Some.ensures.lookup.3.0 c.in-Some.ensures.lookup.1 in
    with_inside c.args.program.now false c.args.depth c.args.number c.in-Some.stmt.now c.if-depth-eq0.false (ap (λ (xs : List Stmt). slice_get xs c.args.number) (sym c.as_slice.ensures) ∙ is) c.add.ensures c.add_inside.ensures
