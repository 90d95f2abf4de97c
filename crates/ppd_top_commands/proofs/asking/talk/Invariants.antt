use Rattle.std.proofs.Common.{◌≡◌}
use Rattle.ppd_top_commands.specs.Asking.{IsAsked}
use Rattle.ppd_top_commands.specs.Output.{standing}
use Rattle.ppd_top_commands.proofs.asking.talk.Given as goal

abbrev pub invariant-loop-number : goal.invariant-loop-number
invariant-loop-number g l = record {
  same : l.session.known ≡ l.initial.session.known;
  asked : IsAsked l.initial.session.known l._number l.reader (standing (g.I.Source.left l.initial.input) (g.I.Source.before_last l.initial.input) (g.I.Source.faults l.initial.input) (g.O.Sink.written l.initial.output) (g.O.Sink.faults l.initial.output)) (standing (g.I.Source.left l.input) (g.I.Source.before_last l.input) (g.I.Source.faults l.input) (g.O.Sink.written l.output) (g.O.Sink.faults l.output));
}
