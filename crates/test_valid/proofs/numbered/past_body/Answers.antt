use Rattle.std.proofs.Common.{sym, subst, map}
use Rattle.std.specs.List.{flat_map}
use Rattle.test_valid.specs.Begins.{Begins}
use Rattle.ppd_ast.specs.Numbered.{numbers_of, of_body}
use Rattle.test_valid.proofs.Beginnings.{begins_stop, begins_then}
use Rattle.test_valid.proofs.numbered.past_body.Goals as goal

pub returns-in_err-next : goal.returns-in_err-next
returns-in_err-next g c =
    let list = map g.T.Numbered.key c.args.list.now in
    let own = g.T.Numbered.own c.args.stmts.now c.args.policy c.args.number c.args.body.now in
    let those = flat_map (g.T.Numbered.at_stmt c.args.stmts.now c.args.policy) (numbers_of c.args.stmts.now c.args.body.now) in
    subst (λ r. Begins r list c.args.place (of_body g.T.Numbered.own g.T.Numbered.at_stmt c.args.stmts.now c.args.policy c.args.number c.args.body.now)) (sym c.from_residual.ensures)
    (begins_stop list c.args.place own those c.in_err-next.ensures)

pub returns : goal.returns
returns g c =
    let list = map g.T.Numbered.key c.args.list.now in
    let own = g.T.Numbered.own c.args.stmts.now c.args.policy c.args.number c.args.body.now in
    let those = flat_map (g.T.Numbered.at_stmt c.args.stmts.now c.args.policy) (numbers_of c.args.stmts.now c.args.body.now) in
    begins_then list c.args.place c.in_ok-next.next own those c.past_stmts.result c.in_ok-next.ensures c.past_stmts.ensures
