use Rattle.std.proofs.Common.{◌∙◌, inr, subst}
use Rattle.ppd_top_commands.specs.Output.{Finished}
use Rattle.ppd_top_commands.proofs.asking.refuse_replay.Goals as goal

pub returns-in-Ok-clause-failed : goal.returns-in-Ok-clause-failed
returns-in-Ok-clause-failed g c =
    inr (
      c.in-Ok.ensures.fault,
      subst (Finished (g.O.Sink.written c.args.output.now) (g.O.Sink.written c.finish.new.output) (g.O.Sink.faults c.args.output.now) (g.O.Sink.faults c.finish.new.output) c.finish.result 6)
          (c.deref.ensures.value ∙ c.in-Ok.ensures.line) c.finish.ensures.end,
    )
