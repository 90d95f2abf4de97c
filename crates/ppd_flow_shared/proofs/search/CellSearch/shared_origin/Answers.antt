use Rattle.std.proofs.Common.{Ok, inl, inr, subst}
use Rattle.std.proofs.lemmas.Result.{err_from_is_err_and}
use Rattle.ppd_graph.specs.declared.walked.Walked.{Walked}
use Rattle.ppd_graph.specs.Looked.{look_map}
use Rattle.ppd_graph.specs.Shared.{edge_of_place, greatest_before, origin_in, written_or_start}
use Rattle.ppd_flow_shared.specs.SharedCells.{IsWalked, seens_in}
use Rattle.ppd_flow_shared.proofs.SharedFound.{read_failed, read_own, read_passed, read_stopped}
use Rattle.ppd_flow_shared.proofs.search.CellSearch.shared_origin.Goals as goal

pub returns-in_err-walked : goal.returns-in_err-walked
returns-in_err-walked g c =
    let search = c.args.self.now in
    let past = search.past.now in
    let xs = seens_in past in
    let best = greatest_before past.program.now past.logs.now
    (edge_of_place past.logs.now xs search.process c.args.interval c.args.place) search.cell in
    let e = err_from_is_err_and c.from_residual.result c.from_residual.ensures.1 in
    rw (e.1, e.2) (read_failed past search.process search.cell c.args.interval c.args.place
    (look_map origin_in (written_or_start past.program.now past.logs.now xs search.cell best)) c.args.steps.now
    c.walk.new.steps c.in_err-walked.field-0.0 c.in_err-walked.ensures)

pub returns-in-Found : goal.returns-in-Found
returns-in-Found g c =
    let search = c.args.self.now in
    let past = search.past.now in
    let xs = seens_in past in
    let best = greatest_before past.program.now past.logs.now
    (edge_of_place past.logs.now xs search.process c.args.interval c.args.place) search.cell in
    read_own past search.process search.cell c.args.interval c.args.place
    (look_map origin_in (written_or_start past.program.now past.logs.now xs search.cell best)) c.in-Found.interval
    c.in-Found.item c.in-Found.value c.args.steps.now c.walk.new.steps
    (subst (λ (w : Walked). IsWalked past search.process search.cell c.args.interval c.args.place c.args.steps.now
    c.walk.new.steps (Ok w)) c.in-Found.is c.in_ok-walked.ensures)

pub returns-in-Stopped : goal.returns-in-Stopped
returns-in-Stopped g c =
    let search = c.args.self.now in
    let past = search.past.now in
    let xs = seens_in past in
    let best = greatest_before past.program.now past.logs.now
    (edge_of_place past.logs.now xs search.process c.args.interval c.args.place) search.cell in
    elim c.in-Stopped.is [
      | inl e ↦ read_stopped past search.process search.cell c.args.interval c.args.place
          (look_map origin_in (written_or_start past.program.now past.logs.now xs search.cell best)) c.args.steps.now
          c.walk.new.steps c.origin_before.new.steps c.origin_before.result
          (subst (λ (w : Walked). IsWalked past search.process search.cell c.args.interval c.args.place c.args.steps.now
          c.walk.new.steps (Ok w)) e c.in_ok-walked.ensures) c.origin_before.ensures
      | inr e ↦ read_passed past search.process search.cell c.args.interval c.args.place
          (look_map origin_in (written_or_start past.program.now past.logs.now xs search.cell best)) c.args.steps.now
          c.walk.new.steps c.origin_before.new.steps c.origin_before.result
          (subst (λ (w : Walked). IsWalked past search.process search.cell c.args.interval c.args.place c.args.steps.now
          c.walk.new.steps (Ok w)) e c.in_ok-walked.ensures) c.origin_before.ensures
    ]
