use Rattle.std.proofs.Common.{◌<◌, ◌≤◌, arith, length}
use Rattle.std.specs.Prelude.{min}
use Rattle.std.proofs.lemmas.Int.{to_z-of_z}
use Rattle.std.proofs.lemmas.Result.{err_from_is_err_and}
use Rattle.ppd_flow_local.proofs.Joined.{no_memory}
use Rattle.ppd_flow_local.proofs.Lefts.{all_edges, all_left, fails_left, next_left}
use Rattle.ppd_flow_local.proofs.search.Search.left_edges.Goals as goal

pub returns-in_err-from : goal.returns-in_err-from
returns-in_err-from g c =
    let cell : c.loop-i.i < length c.args.cells.now = omega (arith, c.min-i-end.ensures, c.loop-i-test.true) in
    let value : c.loop-i.i < length c.args.values.now = omega (arith, c.min-i-end.ensures, c.loop-i-test.true) in
    let e = err_from_is_err_and c.from_residual.result c.from_residual.ensures.1 in
    rw (e.1, e.2) (fails_left c.args.self.now c.args.place.now.interval c.args.place.now.item c.args.frame c.args.cells.now c.args.values.now c.loop-i.i c.args.steps.now c.loop-i.steps c.loop-i.edges c.loop-i.invariant
    c.cell_at-cell.result c.value_at-value.result c.in_err-from.field-0.0 c.left_origin.new.steps cell value c.cell_at-cell.ensures c.value_at-value.ensures c.in_err-from.ensures)

pub returns-in_err-push_left : goal.returns-in_err-push_left
returns-in_err-push_left g c =
    no_memory c.args.self.now (all_edges c.args.self.now c.args.place.now.interval c.args.place.now.item c.args.frame c.args.cells.now c.args.values.now)
    c.args.steps.now c.left_origin.new.steps c.from_residual-in_err-push_left.result c.from_residual-in_err-push_left.ensures.1

pub loop-i-preserved : goal.loop-i-preserved
loop-i-preserved g c = λ o r f.
    let cell : c.loop-i.i < length c.args.cells.now = omega (arith, c.min-i-end.ensures, c.loop-i-test.true) in
    let value : c.loop-i.i < length c.args.values.now = omega (arith, c.min-i-end.ensures, c.loop-i-test.true) in
    next_left c.args.self.now c.args.place.now.interval c.args.place.now.item c.args.frame c.args.cells.now c.args.values.now c.loop-i.i c.args.steps.now c.loop-i.steps c.loop-i.edges c.loop-i.invariant
    c.cell_at-cell.result c.value_at-value.result _ c.in_ok-from.from c.push_left.new.edges c.left_origin.new.steps cell value c.cell_at-cell.ensures c.value_at-value.ensures
    c.in_ok-push_left.ensures (grind (arith, to_z-of_z)) c.in_ok-from.ensures o r f

pub returns : goal.returns
returns g c =
    let over : min (length c.args.cells.now) (length c.args.values.now) ≤ c.loop-i.i = omega (arith, c.min-i-end.ensures, c.loop-i-test.false) in
    all_left c.args.self.now c.args.place.now.interval c.args.place.now.item c.args.frame c.args.cells.now c.args.values.now c.loop-i.i c.args.steps.now c.loop-i.steps c.loop-i.edges c.loop-i.invariant over
