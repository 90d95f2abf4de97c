use Rattle.std.proofs.Common.{◌∙◌, ap, [], ◌∷◌, ◌++◌}
use Rattle.ppd_check_names.proofs.Declared.Costs.{ok_any}
use Rattle.ppd_check_names.proofs.Found.Outcomes.{ok_map}
use Rattle.ppd_check_names.proofs.writer.put_stmt.Goals as goal

pub returns-clause-stmts : goal.returns-clause-stmts
returns-clause-stmts g c = ok_any c.push-2.result _ c.in_ok-push.ensures.ok

pub returns-clause-row : goal.returns-clause-row
returns-clause-row g c =
    ok_map c.push-2.result _ _ (λ e. e ∙ ap (λ n. c.args.out.now.row ++ n ∷ []) (c.in-Ok.ensures.1 ∙ c.len.ensures)) c.push-2.ensures.ok
