use Rattle.std.proofs.Common.{◌≡◌, ◌∙◌, sym, ap, subst, arith, ◌-◌, ◌<◌, ◌≤◌, drop, map, min, length, ◌++◌}
use Rattle.std.specs.List.{flat_map, range_with_len}
use Rattle.test_valid.specs.Begins.{Begins}
use Rattle.ppd_ast.specs.Numbered.{numbers_of}
use Rattle.test_valid.proofs.Compared.{walk_more, walk_stop}
use Rattle.test_valid.proofs.numbered.past_stmts.Goals as goal

pub returns-in_err-next : goal.returns-in_err-next
returns-in_err-next g c =
    let list = map g.T.Numbered.key c.args.list.now in
    let f = g.T.Numbered.at_stmt c.args.stmts.now c.args.policy in
    let low : c.args.body.now.first ≤ c.loop-number.number = omega arith in
    let high : c.loop-number.number < min c.args.body.now.end (length c.args.stmts.now) = omega (arith, c.loop-number-test.true, c.end_of-number-end.ensures) in
    subst (λ r. Begins r list c.args.place (flat_map f (numbers_of c.args.stmts.now c.args.body.now))) (sym c.from_residual.ensures)
    (walk_stop f list c.args.place c.loop-number.next c.args.body.now.first c.loop-number.number low c.loop-number.invariant.compared (min c.args.body.now.end (length c.args.stmts.now)) high c.in_err-next.ensures)

pub loop-number-preserved : goal.loop-number-preserved
loop-number-preserved g c =
    let low : c.args.body.now.first ≤ c.loop-number.number = omega arith in
    record {
      compared = walk_more (g.T.Numbered.at_stmt c.args.stmts.now c.args.policy) (map g.T.Numbered.key c.args.list.now) c.args.place c.loop-number.next c.args.body.now.first c.loop-number.number low c.loop-number.invariant.compared c.in_ok-next.next c.in_ok-next.ensures;
      within = omega (arith, c.loop-number-test.true);
    }

pub returns : goal.returns
returns g c =
    let f = g.T.Numbered.at_stmt c.args.stmts.now c.args.policy in
    let e : c.loop-number.number - c.args.body.now.first ≡ min c.args.body.now.end (length c.args.stmts.now) - c.args.body.now.first = omega (arith, c.end_of-number-end.ensures, c.loop-number-test.false, c.loop-number.auto.number, c.loop-number.invariant.within) in
    c.loop-number.invariant.compared ∙ ap (λ n. flat_map f (range_with_len c.args.body.now.first n) ++ drop c.loop-number.next (map g.T.Numbered.key c.args.list.now)) e
