use Rattle.std.proofs.Common.{List, refl, ap, arith, subst, ◌∙◌}
use Rattle.ppd_model.specs.declared.closed.ProcEnd.{ProcEnd}
use Rattle.ppd_io.specs.Content.{Appends, AppendsPart}
use Rattle.ppd_top_commands.specs.Output.{standing}
use Rattle.ppd_top_commands.specs.Summary.{summary_of}
use Rattle.ppd_top_commands.proofs.Conversing.{head_cut, headed, nothing_yet}
use Rattle.ppd_top_commands.proofs.telling.tell_lines.Goals as goal

pub returns-in_default : goal.returns-in_default
returns-in_default g c = nothing_yet _ _ _

pub returns-in-Err : goal.returns-in-Err
returns-in-Err g c =
    let head = summary_of c.args.run.now.program.now c.args.run.now.closed.ends c.args.session.now.known.races in
    let a = standing (g.I.Source.left c.args.input.now) (g.I.Source.before_last c.args.input.now) (g.I.Source.faults c.args.input.now) (g.O.Sink.written c.args.output.now) (g.O.Sink.faults c.args.output.now) in
    let b = standing (g.I.Source.left c.args.input.now) (g.I.Source.before_last c.args.input.now) (g.I.Source.faults c.args.input.now) (g.O.Sink.written c.put_all.new.out) (g.O.Sink.faults c.put_all.new.out) in
    let races = c.args.session.now.known.races in
    let e = c.deref.ensures.value ∙ (c.in-Ok.ensures ∙ ap (λ (es : List ProcEnd). summary_of c.args.run.now.program.now es races) c.as_slice.ensures) in
    head_cut c.args.session.now.known head a b refl c.in-Err.ensures.cause.failed (subst (AppendsPart (g.O.Sink.written c.args.output.now) (g.O.Sink.written c.put_all.new.out)) e c.in-Err.ensures.bytes)

pub returns : goal.returns
returns g c =
    let head = summary_of c.args.run.now.program.now c.args.run.now.closed.ends c.args.session.now.known.races in
    let a = standing (g.I.Source.left c.args.input.now) (g.I.Source.before_last c.args.input.now) (g.I.Source.faults c.args.input.now) (g.O.Sink.written c.args.output.now) (g.O.Sink.faults c.args.output.now) in
    let m = standing (g.I.Source.left c.args.input.now) (g.I.Source.before_last c.args.input.now) (g.I.Source.faults c.args.input.now) (g.O.Sink.written c.put_all.new.out) (g.O.Sink.faults c.put_all.new.out) in
    let d = standing (g.I.Source.left c.talk.new.input) (g.I.Source.before_last c.talk.new.input) (g.I.Source.faults c.talk.new.input) (g.O.Sink.written c.talk.new.output) (g.O.Sink.faults c.talk.new.output) in
    let races = c.args.session.now.known.races in
    let e = c.deref.ensures.value ∙ (c.in-Ok.ensures ∙ ap (λ (es : List ProcEnd). summary_of c.args.run.now.program.now es races) c.as_slice.ensures) in
    let first = subst (Appends (g.O.Sink.written c.args.output.now) (g.O.Sink.written c.put_all.new.out)) e c.in-Ok-put_all.ensures.bytes in
    headed c.args.session.now.known head a m d refl (omega arith) c.put_all.ensures.cause.later first c.talk.result c.talk.ensures
