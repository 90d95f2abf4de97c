use Rattle.std.proofs.Common.{◌≡◌, ◌∙◌, [], ap, length, replicate}
use Rattle.ppd_deps.proofs.Graphs.{refilled, rows_are}
use Rattle.ppd_deps.proofs.graph.rows_of.Goals as goal

pub returns : goal.returns
returns c =
    let long : length c.fill.new.rows ≡ length c.in_ok-rows.rows.items = c.in_ok-fill.ensures.long ∙ ap length c.as_mut_slice.ensures.value in
    c.from_vec.ensures ∙ refilled c.in_ok-rows.rows.items c.fill.new.rows c.in_ok-rows.rows.len long c.in_ok-rows.rows.ok.0
    ∙ rows_are c.args.program.now c.as_mut_slice.result.now c.fill.new.rows (c.as_mut_slice.ensures.value ∙ c.in_ok-rows.ensures ∙ ap (λ n. replicate n []) c.len.ensures) c.in_ok-fill.ensures
