use Rattle.ppd_top_requests.specs.Questions.{query_of}
use Rattle.ppd_top.proofs.Queried.{tells_failure, tells_text}
use Rattle.ppd_top.proofs.querying.tell.Goals as goal

pub returns-in-Ok : goal.returns-in-Ok
returns-in-Ok g c =
    tells_text c.args.recalled.now.recording (query_of c.args.query.now) c.in-Ok.reply.schedule (g.O.Sink.written c.args.output.now) (g.O.Sink.written c.finish.new.output) (g.O.Sink.faults c.args.output.now) (g.O.Sink.faults c.finish.new.output) c.finish.result c.in-Ok.reply.text.items c.deref.result.now c.in-Ok.ensures c.deref.ensures.value c.finish.ensures.end

pub returns-in-Err : goal.returns-in-Err
returns-in-Err g c =
    tells_failure c.args.recalled.now.recording (query_of c.args.query.now) c.new.result (g.O.Sink.written c.args.output.now) (g.O.Sink.written c.refuse_replay.new.output) (g.O.Sink.faults c.args.output.now) (g.O.Sink.faults c.refuse_replay.new.output) c.refuse_replay.result c.new.ensures c.in-Err.error c.in-Err.ensures c.refuse_replay.ensures.failed
