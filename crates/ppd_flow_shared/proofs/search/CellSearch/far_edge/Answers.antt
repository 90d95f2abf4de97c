use Rattle.std.proofs.Common.{None, Ok, Option, inl, inr, refl, subst, sym}
use Rattle.std.proofs.lemmas.Result.{err_from_is_err_and}
use Rattle.ppd_graph.specs.declared.walked.Walked.{Walked}
use Rattle.ppd_graph.specs.declared.walked.Walked.TheVariants.{Stopped, Passed, Found}
use Rattle.ppd_graph.specs.Shared.{edge_of_place, greatest_before}
use Rattle.ppd_flow_shared.specs.SharedCells.{IsWalked, seens_in}
use Rattle.ppd_flow_shared.proofs.SharedFound.{far_failed, far_found}
use Rattle.ppd_flow_shared.proofs.search.CellSearch.far_edge.Goals as goal

pub returns-in_err-walked : goal.returns-in_err-walked
returns-in_err-walked g c =
    let search = c.args.self.now in
    let past = search.past.now in
    let best = greatest_before past.program.now past.logs.now
    (edge_of_place past.logs.now (seens_in past) search.process c.args.interval c.args.place) search.cell in
    let e = err_from_is_err_and c.from_residual.result c.from_residual.ensures.1 in
    rw (e.1, e.2) (far_failed past search.process search.cell c.args.interval c.args.place best c.args.steps.now
    c.walk.new.steps c.in_err-walked.field-0.0 c.in_err-walked.ensures)

pub returns-in-Found : goal.returns-in-Found
returns-in-Found g c =
    let search = c.args.self.now in
    let past = search.past.now in
    let best = greatest_before past.program.now past.logs.now
    (edge_of_place past.logs.now (seens_in past) search.process c.args.interval c.args.place) search.cell in
    far_found past search.process search.cell c.args.interval c.args.place best
    (Found c.in-Found.interval c.in-Found.item c.in-Found.value) None c.args.steps.now c.walk.new.steps
    (subst (λ (w : Walked). IsWalked past search.process search.cell c.args.interval c.args.place c.args.steps.now
    c.walk.new.steps (Ok w)) c.in-Found.is c.in_ok-walked.ensures) refl

pub returns-in_ok-best-in-Stopped : goal.returns-in_ok-best-in-Stopped
returns-in_ok-best-in-Stopped g c =
    let search = c.args.self.now in
    let past = search.past.now in
    let best = greatest_before past.program.now past.logs.now
    (edge_of_place past.logs.now (seens_in past) search.process c.args.interval c.args.place) search.cell in
    elim c.in-Stopped.is [
      | inl e ↦ far_found past search.process search.cell c.args.interval c.args.place best Stopped c.in_ok-best-in-Stopped.best
          c.args.steps.now c.walk.new.steps
          (subst (λ (w : Walked). IsWalked past search.process search.cell c.args.interval c.args.place c.args.steps.now
          c.walk.new.steps (Ok w)) e c.in_ok-walked.ensures) (sym c.in_ok-best-in-Stopped.ensures)
      | inr e ↦ far_found past search.process search.cell c.args.interval c.args.place best Passed c.in_ok-best-in-Stopped.best
          c.args.steps.now c.walk.new.steps
          (subst (λ (w : Walked). IsWalked past search.process search.cell c.args.interval c.args.place c.args.steps.now
          c.walk.new.steps (Ok w)) e c.in_ok-walked.ensures) (sym c.in_ok-best-in-Stopped.ensures)
    ]
