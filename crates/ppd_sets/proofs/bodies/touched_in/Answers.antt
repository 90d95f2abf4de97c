use Rattle.std.proofs.Common.{◌≡◌, ◌∙◌, ◌<◌, ◌≤◌, true, sym, ap, arith, List, Some, length, get_or}
use Rattle.std.specs.Prelude.{slice_get}
use Rattle.ppd_ast.specs.declared.program.Stmt.{Stmt}
use Rattle.ppd_ast.specs.declared.program.Kind.{Kind}
use Rattle.ppd_ast.specs.Lookups.{kind_of}
use Rattle.std.proofs.lemmas.Option.{slice_get-get_or}
use Rattle.ppd_sets.specs.Named.{reads, writes}
use Rattle.ppd_sets.specs.Used.{reads_at, writes_at}
use Rattle.ppd_sets.proofs.Statements.{kind_is, body_more}
use Rattle.ppd_sets.proofs.bodies.touched_in.Goals as goal

pub loop-number-preserved : goal.loop-number-preserved
loop-number-preserved c =
    let p = c.args.program.now in
    let k = c.loop-number.number in
    let x : Stmt = get_or c.as_slice-stmts.result.now c.loop-number.number c.index-stmts-number.result in
    let low : c.args.body.now.first ≤ k = omega arith in
    let inside : k < length c.as_slice-stmts.result.now = omega (arith, c.loop-number-test.true, c.end_of-number-end.ensures) in
    let is : slice_get c.as_slice-stmts.result.now k ≡ Some x = slice_get-get_or c.as_slice-stmts.result.now k c.index-stmts-number.result inside in
    let kind : kind_of p k ≡ x.kind = kind_is p k x (ap (λ (xs : List Stmt). slice_get xs k) (sym c.as_slice-stmts.ensures) ∙ is) in
    record {
      gained = body_more (reads_at true p) (writes_at true p) (reads true p.exprs x.kind) (writes true x.kind) c.args.body.now.first k low
          (sym (ap (λ (y : Kind). reads true p.exprs y) kind)) (sym (ap (λ (y : Kind). writes true y) kind)) c.loop-number.invariant.gained c.add.ensures;
      within = omega (arith, c.loop-number-test.true);
    }
