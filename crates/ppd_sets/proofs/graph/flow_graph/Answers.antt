use Rattle.std.proofs.Common.{◌≡◌, ◌≤◌, ◌-◌, ◌∙◌, ap, arith, map, Some, refl, length}
use Rattle.std.specs.Prelude.{slice_get}
use Rattle.std.specs.List.{range_with_len}
use Rattle.ppd_ast.proofs.Walks.{got_some}
use Rattle.ppd_sets.specs.Flow.{next_of}
use Rattle.ppd_sets.proofs.FlowRows.{rows_more, graph_is}
use Rattle.ppd_sets.proofs.graph.flow_graph.Goals as goal

pub loop-stmt-preserved : goal.loop-stmt-preserved
loop-stmt-preserved c =
    let first = c.index-as_slice-body.result.first in
    let low : first ≤ c.loop-stmt.stmt = omega arith in
    record {
      rows = rows_more c.args.program.now first c.loop-stmt.stmt c.loop-stmt.rows c.push.new.self c.in_ok-row.row low c.loop-stmt.invariant.rows c.in_ok-row.ensures c.in_ok-push.ensures.ok;
      within = omega (arith, c.loop-stmt-test.true);
    }

pub returns : goal.returns
returns c =
    let body = c.index-as_slice-body.result in
    let long : length c.as_slice.result.now ≡ length c.args.program.now.bodies = ap length c.as_slice.ensures in
    let there : slice_get c.as_slice.result.now c.args.body ≡ Some body = got_some c.as_slice.result.now c.args.body body (omega (arith, c.requires, long)) c.index-as_slice-body.is in
    let end : c.loop-stmt.stmt - body.first ≡ body.end - body.first = omega (arith, c.loop-stmt-test.false, c.loop-stmt.auto.stmt, c.loop-stmt.invariant.within) in
    graph_is c.args.program.now c.as_slice.result.now c.args.body body _ there c.as_slice.ensures refl
    (c.loop-stmt.invariant.rows ∙ ap (λ n. map (next_of c.args.program.now) (range_with_len body.first n)) end)
