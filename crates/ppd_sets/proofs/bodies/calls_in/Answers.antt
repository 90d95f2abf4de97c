use Rattle.std.proofs.Common.{◌≡◌, ◌∙◌, ◌<◌, ◌≤◌, sym, ap, arith, List, Some, length, get_or}
use Rattle.std.specs.Prelude.{slice_get}
use Rattle.ppd_ast.specs.declared.program.Stmt.{Stmt}
use Rattle.std.proofs.lemmas.Option.{slice_get-get_or}
use Rattle.ppd_sets.specs.Used.{callee}
use Rattle.ppd_sets.proofs.Statements.{kind_is}
use Rattle.ppd_sets.proofs.Calling.{calls_more}
use Rattle.ppd_sets.proofs.bodies.calls_in.Goals as goal

pub loop-number-preserved : goal.loop-number-preserved
loop-number-preserved c =
    let low : c.args.body.now.first ≤ c.loop-number.number = omega arith in
    let inside : c.loop-number.number < length c.as_slice-stmts.result.now = omega (arith, c.loop-number-test.true, c.end_of-number-end.ensures) in
    let x : Stmt = get_or c.as_slice-stmts.result.now c.loop-number.number c.index-stmts-number.result in
    let is : slice_get c.as_slice-stmts.result.now c.loop-number.number ≡ Some x = slice_get-get_or c.as_slice-stmts.result.now c.loop-number.number c.index-stmts-number.result inside in
    record {
      gathered = calls_more c.args.program.now c.args.body.now.first c.loop-number.number c.loop-number.ids c.push_call.new.ids (callee x.kind) low c.loop-number.invariant.gathered
          (sym (ap callee (kind_is c.args.program.now c.loop-number.number x (ap (λ (xs : List Stmt). slice_get xs c.loop-number.number) (sym c.as_slice-stmts.ensures) ∙ is)))) c.in_ok-push_call.ensures;
      within = omega (arith, c.loop-number-test.true);
    }
