use Rattle.std.proofs.Common.{Ok, sym, subst}
use Rattle.ppd_sem.specs.declared.event.Spot.{Spot}
use Rattle.ppd_graph.specs.Locals.{local_origin}
use Rattle.ppd_graph.specs.Seen.{Seen}
use Rattle.ppd_graph.specs.Shared.{of_process}
use Rattle.ppd_flow_past.specs.ByReplays.{IsFoundBy}
use Rattle.ppd_flow_shared.specs.SharedCells.{IsAnswerTo}
use Rattle.ppd_flow.specs.Answers.{spot_origin}
use Rattle.ppd_flow.proofs.Seens.{same_seen}
use Rattle.ppd_flow.proofs.reads.read_origin.Goals as goal

pub returns-in-Local : goal.returns-in-Local
returns-in-Local g c =
    let s = c.args.search.now in
    let place = c.args.place.now in
    subst (λ (spot : Spot). IsAnswerTo s.past.now (spot_origin s place spot) c.args.steps.now c.local_origin.new.steps c.local_origin.result) (sym c.in-Local.is)
    (subst (λ (x : Seen). IsFoundBy s.past.now
    (of_process s.process (local_origin s.past.now.program.now s.past.now.plan.now x s.process place.interval place.item c.in-Local.frame c.in-Local.cell).replays)
    (Ok (local_origin s.past.now.program.now s.past.now.plan.now x s.process place.interval place.item c.in-Local.frame c.in-Local.cell).found)
    c.args.steps.now c.local_origin.new.steps c.local_origin.result) (same_seen s.past.now s.process) c.local_origin.ensures)
