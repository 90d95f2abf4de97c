use Rattle.std.proofs.Common.{Ok, Err, refl, ap, arith, rules, ◌≡◌, ◌∙◌, true, false}
use Rattle.ppd_ast.specs.declared.limits.TheConstants.{MOST_INPUT_LINES}
use Rattle.ppd_io.specs.declared.lines.LineError.TheVariants.{Failed, LongLine}
use Rattle.ppd_top_commands.specs.Output.{standing}
use Rattle.ppd_top_commands.proofs.Conversing.{ends_failed, ends_many, ends_none, has_line, long_there, need_as, read_as}
use Rattle.ppd_top_commands.proofs.asking.end_lines.Goals as goal

pub returns-in-Err-Failed : goal.returns-in-Err-Failed
returns-in-Err-Failed g c = λ a x q.
    let b = standing (g.I.Source.left c.args.input.now) (g.I.Source.before_last c.args.input.now) (g.I.Source.faults c.args.input.now) (g.O.Sink.written c.args.output.now) (g.O.Sink.faults c.args.output.now) in
    let d = standing (g.I.Source.left c.next.new.source) (g.I.Source.before_last c.next.new.source) (g.I.Source.faults c.next.new.source) (g.O.Sink.written c.args.output.now) (g.O.Sink.faults c.args.output.now) in
    let e : c.next.result ≡ Err Failed = c.in-Err-Failed.is ∙ ap Err c.in-Err-Failed.field-0-is in
    let r = read_as x MOST_INPUT_LINES a b d c.args.reader.now c.next.new.self c.next.result (Err Failed) e c.next.ensures.given (λ over. let o = c.next.ensures.over over in (o.0, ap g.I.Source.left o.1)) c.next.ensures.few (need_as _ g.I.Source.left g.I.Source.before_last _ _ _ c.next.ensures.need) in
    ends_failed x MOST_INPUT_LINES a b d c.args.reader.now c.next.new.self q r (omega arith) (c.next.ensures.failed e) refl

pub returns-in-Ok-false : goal.returns-in-Ok-false
returns-in-Ok-false g c = λ a x q.
    let b = standing (g.I.Source.left c.args.input.now) (g.I.Source.before_last c.args.input.now) (g.I.Source.faults c.args.input.now) (g.O.Sink.written c.args.output.now) (g.O.Sink.faults c.args.output.now) in
    let d = standing (g.I.Source.left c.next.new.source) (g.I.Source.before_last c.next.new.source) (g.I.Source.faults c.next.new.source) (g.O.Sink.written c.args.output.now) (g.O.Sink.faults c.args.output.now) in
    let known : c.in-Ok-false.field-0 ≡ false = search rules in
    let e : c.next.result ≡ Ok false = c.in-Ok-false.is ∙ ap Ok known in
    let r = read_as x MOST_INPUT_LINES a b d c.args.reader.now c.next.new.self c.next.result (Ok false) e c.next.ensures.given (λ over. let o = c.next.ensures.over over in (o.0, ap g.I.Source.left o.1)) c.next.ensures.few (need_as _ g.I.Source.left g.I.Source.before_last _ _ _ c.next.ensures.need) in
    ends_none x MOST_INPUT_LINES a b d c.args.reader.now c.next.new.self q r (omega arith) refl

pub returns-in-Ok-true : goal.returns-in-Ok-true
returns-in-Ok-true g c = λ a x q.
    let b = standing (g.I.Source.left c.args.input.now) (g.I.Source.before_last c.args.input.now) (g.I.Source.faults c.args.input.now) (g.O.Sink.written c.args.output.now) (g.O.Sink.faults c.args.output.now) in
    let d = standing (g.I.Source.left c.next.new.source) (g.I.Source.before_last c.next.new.source) (g.I.Source.faults c.next.new.source) (g.O.Sink.written c.finish-in-Ok-true.new.output) (g.O.Sink.faults c.finish-in-Ok-true.new.output) in
    let known : c.in-Ok-true.field-0 ≡ true = search rules in
    let e : c.next.result ≡ Ok true = c.in-Ok-true.is ∙ ap Ok known in
    let r = read_as x MOST_INPUT_LINES a b d c.args.reader.now c.next.new.self c.next.result (Ok true) e c.next.ensures.given (λ over. let o = c.next.ensures.over over in (o.0, ap g.I.Source.left o.1)) c.next.ensures.few (need_as _ g.I.Source.left g.I.Source.before_last _ _ _ c.next.ensures.need) in
    let h = has_line x MOST_INPUT_LINES a b d c.args.reader.now c.next.new.self q r in
    ends_many x MOST_INPUT_LINES a b d c.args.reader.now c.next.new.self q h.rest c.next.new.self.line c.finish-in-Ok-true.result h.on refl c.finish-in-Ok-true.ensures.end

pub returns-in-Err-LongLine : goal.returns-in-Err-LongLine
returns-in-Err-LongLine g c = λ a x q.
    let b = standing (g.I.Source.left c.args.input.now) (g.I.Source.before_last c.args.input.now) (g.I.Source.faults c.args.input.now) (g.O.Sink.written c.args.output.now) (g.O.Sink.faults c.args.output.now) in
    let d = standing (g.I.Source.left c.next.new.source) (g.I.Source.before_last c.next.new.source) (g.I.Source.faults c.next.new.source) (g.O.Sink.written c.finish.new.output) (g.O.Sink.faults c.finish.new.output) in
    let e : c.next.result ≡ Err LongLine = c.in-Err-LongLine.is ∙ ap Err c.in-Err-LongLine.field-0-is in
    let r = read_as x MOST_INPUT_LINES a b d c.args.reader.now c.next.new.self c.next.result (Err LongLine) e c.next.ensures.given (λ over. let o = c.next.ensures.over over in (o.0, ap g.I.Source.left o.1)) c.next.ensures.few (need_as _ g.I.Source.left g.I.Source.before_last _ _ _ c.next.ensures.need) in
    let l = long_there x MOST_INPUT_LINES a b d c.args.reader.now c.next.new.self q r in
    ends_many x MOST_INPUT_LINES a b d c.args.reader.now c.next.new.self q l.more l.first c.finish.result l.on refl c.finish.ensures.end
