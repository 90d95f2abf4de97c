use Rattle.std.proofs.Common.{◌∙◌, ◌≤◌, ◌++◌, ◌∷◌, [], sym, ap, arith}
use Rattle.ppd_ast.proofs.Ranges.{range_more}
use Rattle.ppd_deps.proofs.tables.process_numbers.Goals as goal

pub loop-body-preserved : goal.loop-body-preserved
loop-body-preserved c =
    let low : c.args.program.now.functions ≤ c.loop-body.body = omega arith in
    record {
      found = c.in_ok-push.ensures.ok ∙ ap (λ xs. xs ++ c.loop-body.body ∷ []) c.loop-body.invariant.found ∙ sym (range_more c.args.program.now.functions c.loop-body.body low);
      within = omega (arith, c.loop-body-test.true);
    }
