use Rattle.std.proofs.lemmas.Result.{err_from_is_err_and}
use Rattle.ppd_model.specs.HappenedBefore.{edge}
use Rattle.ppd_flow_tables.proofs.Found.{err_any}
use Rattle.ppd_graph.specs.Shared.{of_process, written_at}
use Rattle.ppd_graph.specs.Walk.{walk}
use Rattle.ppd_flow_shared.specs.Items.{seen_for}
use Rattle.ppd_flow_shared.specs.SharedCells.{answer_of}
use Rattle.ppd_flow_shared.proofs.written.written_before.Goals as goal

pub returns-in_err-walked : goal.returns-in_err-walked
returns-in_err-walked g c =
    let search = c.args.search.now in
    let x = seen_for search in
    let e = err_from_is_err_and c.from_residual.result c.from_residual.ensures.1 in
    rw (e.1, e.2) (err_any search.past.now (of_process search.process (walk x search.cell c.args.interval c.args.place).replays)
    (walk x search.cell c.args.interval c.args.place).found
    (answer_of (written_at search.past.now.logs.now search.cell (edge search.process c.args.edge)
    (walk x search.cell c.args.interval c.args.place).found))
    c.args.steps.now c.walk.new.steps c.in_err-walked.field-0.0 c.in_err-walked.ensures)
