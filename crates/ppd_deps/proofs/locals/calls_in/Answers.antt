use Rattle.std.proofs.Common.{◌∙◌, ◌≤◌, ◌++◌, ◌∷◌, [], ℕ, sym, ap, arith}
use Rattle.ppd_deps.proofs.Tabled.{range_no, range_yes}
use Rattle.ppd_deps.specs.Named.{calls}
use Rattle.ppd_deps.proofs.locals.calls_in.Goals as goal
use Rattle.ppd_deps.proofs.locals.calls_in.Goals.{then-does_call+in_ok-push, else-does_call}

pub loop-stmt-preserved : goal.loop-stmt-preserved
loop-stmt-preserved c =
    let low : c.args.body.now.first ≤ c.loop-stmt.stmt = omega arith in
    let test : ℕ → _ = λ d. calls c.args.program.now d c.args.function in
    record {
      found = elim c.if-does_call.branch [
        | then-does_call+in_ok-push w ↦
            w.ids-is ∙ w.in_ok-push.ensures.ok ∙ ap (λ ids. ids ++ c.loop-stmt.stmt ∷ []) c.loop-stmt.invariant.found
            ∙ sym (range_yes test c.args.body.now.first c.loop-stmt.stmt low (sym c.does_call.ensures ∙ w.if-does_call.true))
        | else-does_call w ↦
            w.ids-is ∙ c.loop-stmt.invariant.found ∙ sym (range_no test c.args.body.now.first c.loop-stmt.stmt low (sym c.does_call.ensures ∙ w.if-does_call.false))
      ];
      within = omega (arith, c.loop-stmt-test.true);
    }
