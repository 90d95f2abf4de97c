use Rattle.std.proofs.Common.{◌≡◌, subst}
use Rattle.ppd_top_requests.specs.Questions.{query_of}
use Rattle.ppd_codec_runs.specs.Recordings.{IsNotRecalled, IsRefusedBy}
use Rattle.ppd_top.specs.Ran.Queries.{query_refused}
use Rattle.ppd_top_commands.specs.Output.{Finished}
use Rattle.ppd_top.proofs.Queried.{askable, told_by}
use Rattle.ppd_top.proofs.querying.tell_query.Goals as goal

pub returns-in-Err-Refused : goal.returns-in-Err-Refused
returns-in-Err-Refused g c =
    let why : IsRefusedBy c.args.bytes.now c.in-Err-Refused.line.items = subst (IsNotRecalled c.args.bytes.now) c.in-Err-Refused.field-0-is c.in-Err-Refused.ensures.err in
    let value = c.deref.ensures.value in
    let line = c.in-Err-Refused.line-is in
    let e : c.deref.result.now ≡ c.in-Err-Refused.line.items = cc in
    query_refused c.in-Err-Refused.line.items why c.new.ensures
    (subst (Finished (g.O.Sink.written c.args.output.now) (g.O.Sink.written c.finish.new.output) (g.O.Sink.faults c.args.output.now) (g.O.Sink.faults c.finish.new.output) c.finish.result 6) e c.finish.ensures.end)

pub returns-in-Ok : goal.returns-in-Ok
returns-in-Ok g c = told_by c.args.bytes.now (query_of c.args.query.now) c.tell-outcome.result.schedule (g.O.Sink.written c.args.output.now) (g.O.Sink.written c.tell-outcome.new.output) (g.O.Sink.faults c.args.output.now) (g.O.Sink.faults c.tell-outcome.new.output) c.tell-outcome.result.status c.in-Ok.recalled.recording c.in-Ok.ensures.ok c.tell-outcome.ensures

pub tell-outcome-requires-clause-askable : goal.tell-outcome-requires-clause-askable
tell-outcome-requires-clause-askable g c κs within = askable c.args.bytes.now c.in-Ok.recalled c.in-Ok.ensures.ok c.in-Ok.ensures.together
