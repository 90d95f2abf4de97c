use Rattle.std.proofs.Common.{◌≡◌, refl, subst}
use Rattle.ppd_codec_runs.specs.Recordings.{IsNotRecalled, IsRefusedBy}
use Rattle.ppd_top_commands.specs.Debugging.Debugs.{no_recall, recording_refused}
use Rattle.ppd_top_commands.specs.Output.{Finished}
use Rattle.ppd_top_commands.proofs.debugging.refuse.Goals as goal

pub returns-in-Memory : goal.returns-in-Memory
returns-in-Memory g c = λ bytes left last reads not. no_recall refl refl

pub returns-in-Refused : goal.returns-in-Refused
returns-in-Refused g c = λ bytes left last reads not.
    let why : IsRefusedBy bytes c.in-Refused.line.items = subst (IsNotRecalled bytes) c.in-Refused.is not in
    recording_refused c.in-Refused.line.items why (record { left = refl; last = refl; reads = refl })
    (subst (Finished (g.O.Sink.written c.args.output.now) (g.O.Sink.written c.finish.new.output) (g.O.Sink.faults c.args.output.now) (g.O.Sink.faults c.finish.new.output) c.finish.result 6) c.deref.ensures.value c.finish.ensures.end)
