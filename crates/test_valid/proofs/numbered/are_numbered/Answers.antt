use Rattle.std.proofs.Common.{◌∙◌, sym, []}
use Rattle.std.proofs.lemmas.List.{append-nil}
use Rattle.std.specs.List.{flat_map, enumerate_from}
use Rattle.ppd_ast.specs.Numbered.{of_body}
use Rattle.test_valid.proofs.numbered.are_numbered.Goals as goal

pub returns-in-None : goal.returns-in-None
returns-in-None g c =
    let all = flat_map (λ e. of_body g.T.Numbered.own g.T.Numbered.at_stmt c.args.stmts.now c.args.policy e.0 e.1) (enumerate_from 0 c.args.bodies.now) in
    (λ e. cc, λ e. absurd (c.in-None.ensures [] (e ∙ sym (append-nil all))))
