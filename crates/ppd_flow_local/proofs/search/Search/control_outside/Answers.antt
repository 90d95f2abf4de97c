use Rattle.ppd_graph.specs.Control.{call_or_entry, control_in}
use Rattle.ppd_graph.specs.Looked.{known, look_or}
use Rattle.ppd_graph.specs.Seen.{kind_at}
use Rattle.ppd_flow_local.specs.Searches.{plan_in, program_in, seen}
use Rattle.ppd_flow_local.proofs.Joined.{known_else, known_origin, no_memory}
use Rattle.ppd_flow_local.proofs.search.Search.control_outside.Goals as goal

pub returns-in-None : goal.returns-in-None
returns-in-None g c =
    let s = c.args.self.now in
    let k = c.args.place.now.interval in
    known_else s (control_in (program_in s) (plan_in s) (seen s) s.process k c.args.place.now.item c.args.stmt) (call_or_entry (seen s) s.process k (kind_at (plan_in s) (seen s) k))
    c.args.steps.now c.call_or_entry.new.steps c.call_or_entry.result (rw c.in-None.is at c.in_ok-origin.ensures) c.call_or_entry.ensures

pub returns-in-Some : goal.returns-in-Some
returns-in-Some g c =
    let s = c.args.self.now in
    let k = c.args.place.now.interval in
    known_origin s (control_in (program_in s) (plan_in s) (seen s) s.process k c.args.place.now.item c.args.stmt) (call_or_entry (seen s) s.process k (kind_at (plan_in s) (seen s) k))
    c.in-Some.origin c.args.steps.now (rw c.in-Some.is at c.in_ok-origin.ensures)

pub returns-in_err-origin : goal.returns-in_err-origin
returns-in_err-origin g c =
    let s = c.args.self.now in
    let k = c.args.place.now.interval in
    no_memory s (look_or (known (control_in (program_in s) (plan_in s) (seen s) s.process k c.args.place.now.item c.args.stmt)) (call_or_entry (seen s) s.process k (kind_at (plan_in s) (seen s) k)))
    c.args.steps.now c.args.steps.now c.from_residual.result c.from_residual.ensures.1
