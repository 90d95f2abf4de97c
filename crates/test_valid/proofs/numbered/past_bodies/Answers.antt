use Rattle.std.proofs.Common.{sym, subst, map}
use Rattle.std.specs.List.{flat_map, enumerate_from}
use Rattle.test_valid.specs.Begins.{Begins}
use Rattle.ppd_ast.specs.Numbered.{of_body}
use Rattle.test_valid.proofs.Compared.{bodies_more, bodies_stop}
use Rattle.test_valid.proofs.numbered.past_bodies.Goals as goal

pub returns-in_err-next : goal.returns-in_err-next
returns-in_err-next g c =
    let list = map g.T.Numbered.key c.args.list.now in
    let f = of_body g.T.Numbered.own g.T.Numbered.at_stmt c.args.stmts.now c.args.policy in
    subst (λ r. Begins r list 0 (flat_map (λ e. f e.0 e.1) (enumerate_from 0 c.args.bodies.now))) (sym c.from_residual.ensures)
    (bodies_stop f list c.loop-number.next c.loop-number.number c.args.bodies.now c.index-bodies-number.result c.loop-number-test.true c.index-bodies-number.is c.loop-number.invariant c.in_err-next.ensures)

pub loop-number-preserved : goal.loop-number-preserved
loop-number-preserved g c =
    let f = of_body g.T.Numbered.own g.T.Numbered.at_stmt c.args.stmts.now c.args.policy in
    bodies_more f (map g.T.Numbered.key c.args.list.now) c.loop-number.next c.loop-number.number c.args.bodies.now c.index-bodies-number.result c.loop-number-test.true c.index-bodies-number.is c.loop-number.invariant c.in_ok-next.next c.in_ok-next.ensures
