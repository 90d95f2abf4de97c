use Rattle.std.proofs.Common.{◌∙◌, ap, sym}
use Rattle.ppd_flow_past.proofs.Found.{is_failure}
use Rattle.ppd_flow_past.specs.SeenBy.{seen_in}
use Rattle.ppd_flow_shared.proofs.SharedFound.{seen_there}
use Rattle.ppd_flow.proofs.FarProcesses.{far_read}
use Rattle.ppd_flow.specs.Far.{process_of}
use Rattle.ppd_flow.proofs.far.shared_process.Goals as goal

pub returns-in-Ok-Some-clause-is : goal.returns-in-Ok-Some-clause-is
returns-in-Ok-Some-clause-is g c =
    let past = c.args.search.now.past.now in
    let process = c.args.search.now.process in
    let place = c.args.place.now in
    ap process_of (sym c.in-Ok-Some.field-0-is)
    ∙ far_read past process place.interval place.item c.args.cell (seen_in past process) c.in-Ok-Some.field-0
    c.args.steps.now c.far_edge.new.steps (sym (seen_there past process)) c.in-Ok-Some.ensures

pub returns-in-Ok-None-clause-is : goal.returns-in-Ok-None-clause-is
returns-in-Ok-None-clause-is g c =
    let past = c.args.search.now.past.now in
    let process = c.args.search.now.process in
    let place = c.args.place.now in
    ap process_of (sym c.in-Ok-None.field-0-is)
    ∙ far_read past process place.interval place.item c.args.cell (seen_in past process) c.in-Ok-None.field-0
    c.args.steps.now c.far_edge.new.steps (sym (seen_there past process)) c.in-Ok-None.ensures

pub returns-in-Err-clause-error : goal.returns-in-Err-clause-error
returns-in-Err-clause-error g c =
    is_failure c.args.search.now.past.now _ _ c.args.steps.now c.far_edge.new.steps c.in-Err.error c.in-Err.ensures
