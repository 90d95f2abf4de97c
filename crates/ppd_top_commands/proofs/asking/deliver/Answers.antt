use Rattle.std.proofs.Common.{◌∙◌}
use Rattle.ppd_top_commands.proofs.Replying.{becomes}
use Rattle.ppd_top_commands.proofs.asking.deliver.Goals as goal

pub returns-clause-becomes : goal.returns-clause-becomes
returns-clause-becomes g c = λ x line none text quits.
    becomes x line (g.O.Sink.written c.args.output.now) (g.O.Sink.written c.finish_reply.new.output) (g.O.Sink.faults c.args.output.now) (g.O.Sink.faults c.finish_reply.new.output)
    c.as_slice.result.now c.args.reply.now.quit c.finish_reply.result none (c.as_slice.ensures ∙ text) quits c.finish_reply.ensures.end
