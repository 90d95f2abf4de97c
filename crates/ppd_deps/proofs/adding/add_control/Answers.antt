use Rattle.std.proofs.Common.{◌∙◌, ◌<◌, ◌++◌, [], ap, arith, length, refl}
use Rattle.std.proofs.lemmas.List.{get_or_default}
use Rattle.ppd_deps.proofs.Added.{first_push}
use Rattle.ppd_deps.specs.Edges.{control_into}
use Rattle.ppd_deps.proofs.adding.add_control.Goals as goal

pub loop-stmt-preserved : goal.loop-stmt-preserved
loop-stmt-preserved c =
    let k = c.loop-stmt.stmt in
    let rows = c.loop-stmt.rows in
    let lt : k < length rows = omega arith in
    first_push k c.args.rows.now rows _ c.add_control_at.new.row _ lt c.loop-stmt.invariant refl
    (c.in_ok-add_control_at.ensures ∙ ap (λ r. r ++ control_into c.args.program.now k) (get_or_default rows k c.index-rows-stmt.result [] lt))
