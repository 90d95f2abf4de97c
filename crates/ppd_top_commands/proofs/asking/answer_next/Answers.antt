use Rattle.std.proofs.Common.{Ok, Err, refl, ap, arith, rules, ◌≡◌, ◌∙◌, true, false}
use Rattle.ppd_io.specs.declared.lines.LineError.TheVariants.{Failed, LongLine}
use Rattle.ppd_top_commands.specs.Output.{standing}
use Rattle.ppd_top_commands.proofs.Conversing.{ends_failed, ends_long, ends_none, goes_on, need_as, read_as}
use Rattle.ppd_top_commands.proofs.asking.answer_next.Goals as goal

pub returns-in-Err-Failed-clause-goes : goal.returns-in-Err-Failed-clause-goes
returns-in-Err-Failed-clause-goes g c = λ a n few q.
    let b = standing (g.I.Source.left c.args.input.now) (g.I.Source.before_last c.args.input.now) (g.I.Source.faults c.args.input.now) (g.O.Sink.written c.args.output.now) (g.O.Sink.faults c.args.output.now) in
    let d = standing (g.I.Source.left c.next.new.source) (g.I.Source.before_last c.next.new.source) (g.I.Source.faults c.next.new.source) (g.O.Sink.written c.args.output.now) (g.O.Sink.faults c.args.output.now) in
    let e : c.next.result ≡ Err Failed = c.in-Err-Failed.is ∙ ap Err c.in-Err-Failed.field-0-is in
    let r = read_as c.args.session.now.known n a b d c.args.reader.now c.next.new.self c.next.result (Err Failed) e c.next.ensures.given (λ over. let o = c.next.ensures.over over in (o.0, ap g.I.Source.left o.1)) c.next.ensures.few (need_as _ g.I.Source.left g.I.Source.before_last _ _ _ c.next.ensures.need) in
    ends_failed c.args.session.now.known n a b d c.args.reader.now c.next.new.self q r (omega arith) (c.next.ensures.failed e) refl

pub returns-in-Err-LongLine-clause-goes : goal.returns-in-Err-LongLine-clause-goes
returns-in-Err-LongLine-clause-goes g c = λ a n few q.
    let b = standing (g.I.Source.left c.args.input.now) (g.I.Source.before_last c.args.input.now) (g.I.Source.faults c.args.input.now) (g.O.Sink.written c.args.output.now) (g.O.Sink.faults c.args.output.now) in
    let d = standing (g.I.Source.left c.next.new.source) (g.I.Source.before_last c.next.new.source) (g.I.Source.faults c.next.new.source) (g.O.Sink.written c.finish.new.output) (g.O.Sink.faults c.finish.new.output) in
    let e : c.next.result ≡ Err LongLine = c.in-Err-LongLine.is ∙ ap Err c.in-Err-LongLine.field-0-is in
    let r = read_as c.args.session.now.known n a b d c.args.reader.now c.next.new.self c.next.result (Err LongLine) e c.next.ensures.given (λ over. let o = c.next.ensures.over over in (o.0, ap g.I.Source.left o.1)) c.next.ensures.few (need_as _ g.I.Source.left g.I.Source.before_last _ _ _ c.next.ensures.need) in
    ends_long c.args.session.now.known n a b d c.args.reader.now c.next.new.self q c.finish.result r few c.finish.ensures.end

pub returns-in-Ok-false-clause-goes : goal.returns-in-Ok-false-clause-goes
returns-in-Ok-false-clause-goes g c = λ a n few q.
    let b = standing (g.I.Source.left c.args.input.now) (g.I.Source.before_last c.args.input.now) (g.I.Source.faults c.args.input.now) (g.O.Sink.written c.args.output.now) (g.O.Sink.faults c.args.output.now) in
    let d = standing (g.I.Source.left c.next.new.source) (g.I.Source.before_last c.next.new.source) (g.I.Source.faults c.next.new.source) (g.O.Sink.written c.args.output.now) (g.O.Sink.faults c.args.output.now) in
    let known : c.in-Ok-false.field-0 ≡ false = search rules in
    let e : c.next.result ≡ Ok false = c.in-Ok-false.is ∙ ap Ok known in
    let r = read_as c.args.session.now.known n a b d c.args.reader.now c.next.new.self c.next.result (Ok false) e c.next.ensures.given (λ over. let o = c.next.ensures.over over in (o.0, ap g.I.Source.left o.1)) c.next.ensures.few (need_as _ g.I.Source.left g.I.Source.before_last _ _ _ c.next.ensures.need) in
    ends_none c.args.session.now.known n a b d c.args.reader.now c.next.new.self q r (omega arith) refl

pub returns-in-Ok-true-clause-goes : goal.returns-in-Ok-true-clause-goes
returns-in-Ok-true-clause-goes g c = λ a n few q.
    let b = standing (g.I.Source.left c.args.input.now) (g.I.Source.before_last c.args.input.now) (g.I.Source.faults c.args.input.now) (g.O.Sink.written c.args.output.now) (g.O.Sink.faults c.args.output.now) in
    let d = standing (g.I.Source.left c.next.new.source) (g.I.Source.before_last c.next.new.source) (g.I.Source.faults c.next.new.source) (g.O.Sink.written c.answer_line.new.output) (g.O.Sink.faults c.answer_line.new.output) in
    let known : c.in-Ok-true.field-0 ≡ true = search rules in
    let e : c.next.result ≡ Ok true = c.in-Ok-true.is ∙ ap Ok known in
    let r = read_as c.args.session.now.known n a b d c.args.reader.now c.next.new.self c.next.result (Ok true) e c.next.ensures.given (λ over. let o = c.next.ensures.over over in (o.0, ap g.I.Source.left o.1)) c.next.ensures.few (need_as _ g.I.Source.left g.I.Source.before_last _ _ _ c.next.ensures.need) in
    goes_on c.args.session.now.known n a b d c.args.reader.now c.next.new.self q c.answer_line.result r few c.next.ensures.later c.answer_line.ensures.later (rw (← c.line.ensures) c.answer_line.ensures.becomes)
